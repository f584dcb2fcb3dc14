-- Where nothing begins or ends, a second changes the clock and the marks of choices alone.
use mathlib.Core.Path.{◌≡◌, refl, sym, ap, ap₂, ◌∙◌, subst}
use mathlib.Core.Logic.{inl, inr}
use Prim.Native.Nat.{ℕ, suc, ◌<◌}
use mathlib.Core.Bool.{Bool, true, false, cond, not, ◌||◌}
use mathlib.Core.List.{List, [], ◌∷◌, ◌++◌, map}
use native.Mathlib.Omega.{arith}
use lib.Dec.{ltb, eqb}
use borrow.Author.Tests.{ltb-true, lt-ltb, lt-leb, ne_eqb}
use Rattle.rules.specs.declared.Entry.{Entry}
use Rattle.rules.specs.Lists.{keep, In, All}
use Rattle.rules.specs.Records.{State, has}
use Rattle.rules.specs.Holding.{rank_of, better, claim, taken, held_at, Holding, carry, holding_at, with_holding, remarked, end_of}
use Rattle.rules.specs.Rows.{code_at, row_of, rows_with, rows_from, rows_at, ending, superseded, starting}
use Rattle.rules.specs.Moments.{entries_from, lasts, second}
use Rattle.rules.specs.Arrival.{OneHolder}
use Rattle.rules.proofs.Tests.{both}
use Rattle.rules.proofs.ListLaws.{keep_all, keep_no, map_cong}
use Rattle.rules.proofs.Masks.{cut_apart}
use Rattle.rules.proofs.Ranks.{better_self}
use Rattle.rules.proofs.Claims.{Kind, claim_cancelled, code_cancelled}
use Rattle.rules.proofs.Holders.{has_taken}

-- two that hold one control are one
pub same_holder : (hs : List Entry) → OneHolder hs → (h o : Entry) → In h hs → In o hs → (c : ℕ) → has h.held c ≡ true → has o.held c ≡ true → h ≡ o
same_holder [] one h o m _ c e d = elim m [ ]
same_holder (x ∷ xs) one h o (inl p) (inl q) c e d = p ∙ sym q
same_holder (x ∷ xs) one h o (inl p) (inr n) c e d = absurd (one.0 o n c (rw p at e) d)
same_holder (x ∷ xs) one h o (inr m) (inl q) c e d = absurd (one.0 h m c (rw q at d) e)
same_holder (x ∷ xs) one h o (inr m) (inr n) c e d = same_holder xs one.1 h o m n c e d

-- an entry as an image may have it at clock c, that neither begins nor ends a second later; a cancelled one never begins
pub record Resting (c : ℕ) (h : Entry) : Type 0 where
  pub lasting : c < end_of h
  pub early : c < h.begins → h.held ≡ 0
  pub stopped : h.cancelled ≡ true → h.held ≡ 0
  pub not_begin : h.cancelled ≡ false → h.begins ≡ suc c → ⊥
  pub not_end : end_of h ≡ suc c → ⊥

claim_resting : (c : ℕ) (h : Entry) → Resting c h → claim (suc c) h ≡ h.held
unfolding claim
claim_resting c h r = go h.cancelled refl
  where
    begun : (d : Bool) → ltb (suc c) h.begins ≡ d → cond d 0 h.held ≡ h.held
    begun true q = sym (r.early (omega (arith, ltb-true (suc c) h.begins q)))
    begun false q = refl

    go : (b : Bool) → h.cancelled ≡ b → claim (suc c) h ≡ h.held
    go true p = claim_cancelled (suc c) h p ∙ sym (r.stopped p)
    go false p = rw (p, lt-leb (end_of h) (suc c) (let e = r.not_end in omega (arith, r.lasting)), ne_eqb h.begins (suc c) (r.not_begin p)) (begun (ltb (suc c) h.begins) refl)

code_resting : (c : ℕ) (h : Entry) → Resting c h → code_at (suc c) h (carry h h.held) ≡ 0
unfolding code_at
code_resting c h r = go h.cancelled refl
  where
    none : (b d : Bool) → cond {A = ℕ} b 0 (cond (d || not d) 0 7) ≡ 0
    none true d = refl
    none false true = refl
    none false false = refl

    go : (b : Bool) → h.cancelled ≡ b → code_at (suc c) h (carry h h.held) ≡ 0
    go true p = code_cancelled (suc c) h (carry h h.held) p
    go false p = rw (ne_eqb h.begins (suc c) (r.not_begin p), ne_eqb (end_of h) (suc c) r.not_end) (none (h.cancelled || ltb (end_of h) (suc c) || ltb (suc c) h.begins) (eqb h.held 0))

module _ (s : State) (one : OneHolder s.entries) (rest : All (Resting s.clock) s.entries) where
  abbrev t : ℕ
  t = suc s.clock

  held_resting : (h : Entry) → In h s.entries → holding_at s.programs t s.entries h ≡ carry h h.held
  unfolding holding_at held_at
  held_resting h m = rw (claim_resting s.clock h (rest h m)) (ap (carry h) (cut_apart h.held (taken s.programs t s.entries h) apart))
    where
      apart : (c : ℕ) → has h.held c ≡ true → has (taken s.programs t s.entries h) c ≡ true → ⊥
      apart c e d =
          let r = has_taken s.programs t h c s.entries d in
          let q = same_holder s.entries one h r.0 m r.1 c e (rw (claim_resting s.clock r.0 (rest r.0 r.1)) at r.3) in
          both (better (rank_of s.programs h.event) (rank_of s.programs h.event)) (subst (λ o. better (rank_of s.programs o.event) (rank_of s.programs h.event) ≡ true) (sym q) r.2) (better_self (rank_of s.programs h.event))

  pub quiet : second s ≡ record { state = record { clock = t; programs = s.programs; entries = map remarked s.entries }; rows = [] }
  unfolding second entries_from rows_at rows_from rows_with
  quiet = λ i. record { state = record { clock = t; programs = s.programs; entries = (entries_eq i) }; rows = rows_eq i }
    where
      is : Entry → Holding
      is = holding_at s.programs t s.entries

      entries_eq : map (λ h. with_holding h (is h)) (keep (lasts t) s.entries) ≡ map remarked s.entries
      entries_eq = ap (map (λ h. with_holding h (is h))) (keep_all (lasts t) s.entries (λ h m. lt-ltb t (end_of h) (let e = (rest h m).not_end in omega (arith, (rest h m).lasting))))
          ∙ map_cong (λ h. with_holding h (is h)) remarked s.entries (λ h m. ap (with_holding h) (held_resting h m))

      none : (kind : ℕ → Bool) → Kind kind → rows_with t is s.entries kind ≡ []
      none kind e = ap (map (row_of t is)) (keep_no (λ h. kind (code_at t h (is h))) s.entries
          (λ h m. ap (λ n. kind (code_at t h n)) (held_resting h m) ∙ ap kind (code_resting s.clock h (rest h m)) ∙ e))

      rows_eq : rows_with t is s.entries ending ++ (rows_with t is s.entries superseded ++ rows_with t is s.entries starting) ≡ []
      rows_eq = ap₂ ◌++◌ (none ending refl) (ap₂ ◌++◌ (none superseded refl) (none starting refl))
