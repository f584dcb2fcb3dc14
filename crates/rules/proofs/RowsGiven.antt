-- The rows of the moments passed are what the events give in them: each of the three kinds is kept, and a code is of no fourth.
use mathlib.Core.Path.{◌≡◌, refl, sym, ap, ◌∙◌, subst}
use mathlib.Core.Logic.{◌↔◌, ◌⊎◌, inl, inr, ⊎_elim}
use Prim.Native.Nat.{ℕ, zero, suc, ◌<◌}
use native.Mathlib.Nat.{eq-or-lt_of_le}
use native.Mathlib.Omega.{arith}
use mathlib.Core.Bool.{Bool, true, false}
use mathlib.Core.List.{List, ◌++◌, map}
use borrow.Author.Tests.{eq-eqb}
use Rattle.rules.specs.declared.Entry.{Entry}
use Rattle.rules.specs.declared.Program.{Program}
use Rattle.rules.specs.Lists.{keep, In}
use Rattle.rules.specs.Holding.{Holding, holding_at}
use Rattle.rules.specs.Rows.{Row, code_at, row_of, rows_with, rows_from, rows_at, ending, superseded, starting}
use Rattle.rules.specs.Schedules.{Timed, holding, seen, rows_to}
use Rattle.rules.specs.Clauses.{code_given, row_given}
use Rattle.rules.proofs.Tests.{both}
use Rattle.rules.proofs.ListLaws.{in_keep, keep_in, in_map, map_in, in_append, append_in}
use Rattle.rules.proofs.CodeLaws.{one_of_four}

-- Of entries.

module _ (t : ℕ) (now : Entry → Holding) (hs : List Entry) where
  abbrev code : Entry → ℕ
  code h = code_at t h (now h)

  -- the rows of one kind
  abbrev of : (ℕ → Bool) → List Row
  of kind = rows_with t now hs kind

  -- an entry that gives a row, and the row
  abbrev By : Row → Type 0
  By r = (h : Entry) × In h hs × (code h ≡ 0 → ⊥) × (r ≡ row_of t now h)

  of_by : (kind : ℕ → Bool) (r : Row) → kind 0 ≡ false → In r (of kind) → By r
  unfolding rows_with
  of_by kind r d m =
      let p : Entry → Bool = λ h. kind (code h) in
      let q = in_map (row_of t now) r (keep p hs) m in
      let k = in_keep p q.0 hs q.1 in
      (q.0, k.0, λ z. both (kind 0) (sym (ap kind z) ∙ k.1) d, q.2)

  by_of : (kind : ℕ → Bool) (h : Entry) → In h hs → kind (code h) ≡ true → In (row_of t now h) (of kind)
  unfolding rows_with
  by_of kind h m e = let p : Entry → Bool = λ h. kind (code h) in map_in (row_of t now) h (keep p hs) (keep_in p h hs m e)

  pub moment_by : (r : Row) → In r (rows_from t now hs) → By r
  unfolding rows_from
  moment_by r m =
      ⊎_elim (of_by ending r refl) (λ i. ⊎_elim (of_by superseded r refl) (of_by starting r refl) (in_append r (of superseded) (of starting) i))
      (in_append r (of ending) (of superseded ++ of starting) m)

  by_moment : (h : Entry) → In h hs → (code h ≡ 0 → ⊥) → In (row_of t now h) (rows_from t now hs)
  unfolding rows_from
  by_moment h m d = append_in r (of ending) (of superseded ++ of starting) (go (one_of_four t h (now h)))
    where
      r : Row
      r = row_of t now h

      go : (code h ≡ 0) ⊎ ((code h ≡ 2) ⊎ ((ending (code h) ≡ true) ⊎ (code h ≡ 7))) → In r (of ending) ⊎ In r (of superseded ++ of starting)
      go (inl e) = absurd (d e)
      go (inr (inl e)) = inr (append_in r (of superseded) (of starting) (inr (by_of starting h m (eq-eqb (code h) 2 e))))
      go (inr (inr (inl e))) = inl (by_of ending h m e)
      go (inr (inr (inr e))) = inr (append_in r (of superseded) (of starting) (inl (by_of superseded h m (eq-eqb (code h) 7 e))))

-- Of a history.

module _ (ps : List Program) (ts : List Timed) where
  abbrev Given : ℕ → Row → Type 0
  Given u r = (t : ℕ) × (x : Timed) × (t < u) × In x ts × (code_given ps ts t x ≡ 0 → ⊥) × (r ≡ row_given ps ts t x)

  moment_given : (t : ℕ) (r : Row) → In r (rows_at ps (suc t) (map (seen ps ts t) ts)) → Given (suc t) r
  unfolding rows_at holding
  moment_given t r m =
      let hs = map (seen ps ts t) ts in
      let now = holding_at ps (suc t) hs in
      let b = moment_by (suc t) now hs r m in
      let x = in_map (seen ps ts t) b.0 ts b.1 in
      (t, x.0, omega arith, x.1, λ z. b.2 (ap (code (suc t) now hs) x.2 ∙ z), b.3 ∙ ap (row_of (suc t) now) x.2)

  given_moment : (t : ℕ) (x : Timed) → In x ts → (code_given ps ts t x ≡ 0 → ⊥) → In (row_given ps ts t x) (rows_at ps (suc t) (map (seen ps ts t) ts))
  unfolding rows_at holding
  given_moment t x m d =
      let hs = map (seen ps ts t) ts in
      by_moment (suc t) (holding_at ps (suc t) hs) hs (seen ps ts t x) (map_in (seen ps ts t) x ts m) d

  rows_given : (u : ℕ) (r : Row) → In r (rows_to ps ts u) → Given u r
  unfolding rows_to
  rows_given zero r m = absurd m
  rows_given (suc u) r m =
      ⊎_elim (λ i. let g = rows_given u r i in (g.0, g.1, omega (arith, g.2), g.3, g.4, g.5)) (moment_given u r)
      (in_append r (rows_to ps ts u) (rows_at ps (suc u) (map (seen ps ts u) ts)) m)

  given_row : (u t : ℕ) (x : Timed) → t < u → In x ts → (code_given ps ts t x ≡ 0 → ⊥) → In (row_given ps ts t x) (rows_to ps ts u)
  unfolding rows_to
  given_row zero t x l m d = absurd (omega arith)
  given_row (suc u) t x l m d = append_in r (rows_to ps ts u) (at u) (go (eq-or-lt_of_le l) (λ k. given_row u t x k m d))
    where
      r : Row
      r = row_given ps ts t x

      at : ℕ → List Row
      at u = rows_at ps (suc u) (map (seen ps ts u) ts)

      go : (suc t ≡ suc u) ⊎ (suc t < suc u) → (t < u → In r (rows_to ps ts u)) → In r (rows_to ps ts u) ⊎ In r (at u)
      go (inl e) ih = inr (subst (λ u. In r (at u)) (omega arith) (given_moment t x m d))
      go (inr k) ih = inl (ih (omega arith))

  pub rows_are_given : (u : ℕ) (r : Row) → In r (rows_to ps ts u) ↔ Given u r
  rows_are_given u r = (
    rows_given u r,
    λ g. subst (λ r. In r (rows_to ps ts u)) (sym g.5) (given_row u g.0 g.1 g.2 g.3 g.4),
  )
