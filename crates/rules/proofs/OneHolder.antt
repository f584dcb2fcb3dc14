-- After no call does a control have two holders: of two events with different ids one is better, and those of one id do not overlap.
use mathlib.Core.Path.{◌≡◌, refl}
use mathlib.Core.Logic.{inl, inr}
use Prim.Native.Nat.{ℕ}
use mathlib.Core.Bool.{true}
use mathlib.Core.List.{List, [], ◌∷◌, map}
use native.Mathlib.Omega.{arith}
use Rattle.rules.specs.declared.Entry.{Entry}
use Rattle.rules.specs.declared.Program.{Program}
use Rattle.rules.specs.Lists.{In, All, Pairwise}
use Rattle.rules.specs.Records.{has}
use Rattle.rules.specs.Schedules.{Timed, gone_by, holding, seen}
use Rattle.rules.specs.Clauses.{Holds}
use Rattle.rules.specs.Arrival.{OneHolder}
use Rattle.rules.proofs.ListLaws.{in_map}
use Rattle.rules.proofs.Masks.{has_either}
use Rattle.rules.proofs.Kept.{Before}
use Rattle.rules.proofs.Interval.{holding_clauses}

module _ (ps : List Program) (ts : List Timed) where
  not_both : (t c : ℕ) (x y : Timed) → In x ts → In y ts → Before x y → Holds ps ts t c x → Holds ps ts t c y → ⊥
  not_both t c x y m n (inl l) e d = (holding_clauses ps ts).one_holder t c x y m n (λ q. omega arith) e d
  not_both t c x y m n (inr r) e d = omega (arith, (holding_clauses ps ts).not_after t c x e, ((holding_clauses ps ts).not_before t c y n d).1, r.2)

  pub one_holder : (t : ℕ) (ys : List Timed) → Pairwise Before ys → All (λ y. In y ts) ys → OneHolder (map (seen ps ts t) ys)
  one_holder t [] h i = tt
  one_holder t (y ∷ ys) h i = (first, one_holder t ys h.1 (λ z m. i z (inr m)))
    where
      first : (o : Entry) → In o (map (seen ps ts t) ys) → (c : ℕ) → has (seen ps ts t y).held c ≡ true → has o.held c ≡ true → ⊥
      first o m c e d =
          let r = in_map (seen ps ts t) o ys m in
          not_both t c y r.0 (i y (inl refl)) (i r.0 (inr r.1)) (h.0 r.0 r.1)
          (has_either (gone_by t y.cancelled) (holding ps ts t y).held c e)
          (has_either (gone_by t r.0.cancelled) (holding ps ts t r.0).held c (rw r.2 at d))
