-- Which code an event gives at a moment: the cases of its entry (CodeLaws), said of what the event holds then and a second before.
use mathlib.Core.Path.{◌≡◌, refl, sym, ap, ◌∙◌}
use mathlib.Core.Logic.{◌↔◌, ◌⊎◌, inl, inr, ⊎_elim}
use Prim.Native.Nat.{ℕ, suc, ◌<◌}
use native.Mathlib.Omega.{arith}
use mathlib.Core.Bool.{Bool, true, false, cond}
use mathlib.Core.List.{List, map}
use borrow.Author.Tests.{leb-false}
use Rattle.rules.specs.declared.Entry.{Entry}
use Rattle.rules.specs.declared.Program.{Program}
use Rattle.rules.specs.Lists.{In}
use Rattle.rules.specs.Records.{has}
use Rattle.rules.specs.Holding.{claim, taken, Holding, holding_at}
use Rattle.rules.specs.Rows.{end_code, ending}
use Rattle.rules.specs.Schedules.{Timed, gone_by, holding, seen}
use Rattle.rules.specs.Clauses.{Holds, Better, ends, Standing, HoldsAny, code_given, EndsHolding, RowClauses}
use Rattle.rules.proofs.ListLaws.{in_map}
use Rattle.rules.proofs.Masks.{not_has, no_bits, some_bit}
use Rattle.rules.proofs.Holders.{held_if, blocked}
use Rattle.rules.proofs.Interval.{claim_later, not_gone, begun, not_after}
use Rattle.rules.proofs.RowsGiven.{rows_are_given}
use Rattle.rules.proofs.CodeLaws.{Ends, Loses, end_code_lem, code_starts, code_ends, code_loses, is_start_lem, is_end_lem, is_loss, one_of_four}

module _ (ps : List Program) (ts : List Timed) (t : ℕ) (x : Timed) where
  -- what it is a second before, and what it carries at the moment
  abbrev it : Entry
  it = seen ps ts t x

  abbrev now : Holding
  now = holding ps ts (suc t) x

  abbrev before : ℕ
  before = (holding ps ts t x).held

  -- not gone after the moment before: no cancellation before the moment
  stands : gone_by t x.cancelled ≡ false → Standing (suc t) x
  stands e k q = leb-false k t (sym (ap (gone_by t) q) ∙ e)

  -- then it is seen with what it held
  seen_whole : gone_by t x.cancelled ≡ false → it.held ≡ before
  seen_whole e = ap (λ b. cond b 0 before) e

  start_law : code_given ps ts t x ≡ 2 ↔ ((x.begins ≡ suc t) × Standing (suc t) x × HoldsAny ps ts (suc t) x)
  start_law = (
    λ e. let v = is_start_lem (suc t) it now e in (v.begins, stands v.standing, some_bit now.held v.holds),
    λ e. code_starts (suc t) it now (record {
      standing = not_gone t x.cancelled e.1;
      begins = e.0;
      lasts = not_after ps ts (suc t) e.2.0 x e.2.1;
      holds = λ z. not_has now.held e.2.0 z e.2.1;
    }),
  )

  ends_holding : EndsHolding ps ts t x → Ends (suc t) it now
  ends_holding e =
      let s = not_gone t x.cancelled e.1 in record {
        standing = s;
        ends = e.0;
        begun = omega (arith, begun ps ts t e.2.0 x e.2.1);
        held = λ z. not_has before e.2.0 (sym (seen_whole s) ∙ z) e.2.1;
      }

  -- the code of its end, by the choice that stood a second before
  pub code_at_end : EndsHolding ps ts t x → code_given ps ts t x ≡ end_code it.choice
  code_at_end e = code_ends (suc t) it now (ends_holding e)

  pub end_law : ending (code_given ps ts t x) ≡ true ↔ EndsHolding ps ts t x
  end_law = (
    λ e. let v = is_end_lem (suc t) it now e in (v.ends, stands v.standing, some_bit before (λ z. v.held (seen_whole v.standing ∙ z))),
    λ e. ap ending (code_at_end e) ∙ end_code_lem it.choice,
  )

  superseded_law : code_given ps ts t x ≡ 7 ↔ ((suc t < ends x) × Standing (suc t) x × (HoldsAny ps ts (suc t) x → ⊥) × ((x.begins ≡ suc t) ⊎ HoldsAny ps ts t x))
  superseded_law = (only_if, if)
    where
      only_if : code_given ps ts t x ≡ 7 → (suc t < ends x) × Standing (suc t) x × (HoldsAny ps ts (suc t) x → ⊥) × ((x.begins ≡ suc t) ⊎ HoldsAny ps ts t x)
      only_if e =
          let v = is_loss (suc t) it now e in (
            v.lasts,
            stands v.standing,
            λ a. not_has now.held a.0 v.none a.1,
            ⊎_elim (λ b. inl b) (λ n. inr (some_bit before (λ z. n (seen_whole v.standing ∙ z)))) v.cause,
          )

      if : (suc t < ends x) × Standing (suc t) x × (HoldsAny ps ts (suc t) x → ⊥) × ((x.begins ≡ suc t) ⊎ HoldsAny ps ts t x) → code_given ps ts t x ≡ 7
      if e =
          let s = not_gone t x.cancelled e.1 in
          code_loses (suc t) it now (record {
            standing = s;
            begun = ⊎_elim (λ b. omega arith) (λ a. omega (arith, begun ps ts t a.0 x a.1)) e.3;
            lasts = e.0;
            none = no_bits now.held (λ c d. e.2 (c, d));
            cause = ⊎_elim (λ b. inl b) (λ a. inr (λ z. not_has before a.0 (sym (seen_whole s) ∙ z) a.1)) e.3;
          })

  -- what it held and holds no more, a better one holds
  taken_law : (c : ℕ) → code_given ps ts t x ≡ 7 → Holds ps ts t c x → (o : Timed) × In o ts × Better ps o x × Holds ps ts (suc t) c o
  unfolding holding holding_at
  taken_law c e d = go (has (taken ps (suc t) hs it) c) refl
    where
      hs : List Entry
      hs = map (seen ps ts t) ts

      v : Loses (suc t) it now
      v = is_loss (suc t) it now e

      claims : has (claim (suc t) it) c ≡ true
      claims =
          ap (λ m. has m c) (claim_later (suc t) it v.standing (omega (arith, begun ps ts t c x d)) v.lasts ∙ seen_whole v.standing) ∙ d

      go : (b : Bool) → has (taken ps (suc t) hs it) c ≡ b → (o : Timed) × In o ts × Better ps o x × Holds ps ts (suc t) c o
      go true q =
          let r = blocked ps (suc t) hs c it q in
          let o = in_map (seen ps ts t) r.0 ts r.1 in
          (o.0, o.1, rw o.2 at r.2, rw o.2 at r.3)
      go false q = not_has now.held c v.none (held_if ps (suc t) hs c it claims q)

pub row_clauses : (ps : List Program) (ts : List Timed) → RowClauses ps ts
row_clauses ps ts = record {
  at_start = start_law ps ts;
  at_end = end_law ps ts;
  superseded = superseded_law ps ts;
  taken = λ t c x. taken_law ps ts t x c;
  only = λ t x. one_of_four (suc t) (seen ps ts t x) (holding ps ts (suc t) x);
  rows = rows_are_given ps ts;
}
