-- The default of a control: of the first program and the best of the rest the better one stays, so it is better than all, and only one can be.
use mathlib.Core.Path.{◌≡◌, refl, ap, subst}
use mathlib.Core.Logic.{◌⊎◌, inl, inr, ⊎_elim}
use Prim.Native.Nat.{ℕ, zero, suc, ◌+◌, ◌<◌, ◌≤◌}
use native.Mathlib.Nat.{eq-or-lt_of_le}
use native.Mathlib.Omega.{arith}
use mathlib.Core.Bool.{Bool, true, false, cond, ◌&&◌}
use mathlib.Core.List.{List, [], ◌∷◌}
use mathlib.Core.Option.{Option, none, some}
use lib.Dec.{leb}
use borrow.Author.Tests.{leb-true, leb-false}
use Rattle.rules.specs.declared.Program.{Program}
use Rattle.rules.specs.Records.{has, program_at}
use Rattle.rules.specs.Calls.{Ranked, best_of, best_default}
use Rattle.rules.specs.Clauses.{Offers, BestOffer, DefaultClause}
use Rattle.rules.proofs.Tests.{both, each_true}

-- r, at place k, is better than the program at place m, or is it
abbrev Ahead : List Program → Ranked → ℕ → ℕ → Type 0
Ahead ps r k m = (r.primacy < (program_at ps m).primacy) ⊎ ((r.primacy ≡ (program_at ps m).primacy) × (k ≤ m))

module _ (c : ℕ) where
  -- r is the best of the programs numbered from n on, and stands at place k of them
  pub record BestFrom (n : ℕ) (ps : List Program) (k : ℕ) (r : Ranked) : Type 0 where
    pub number : r.number ≡ n + k
    pub offers : Offers ps c k
    pub primacy : (program_at ps k).primacy ≡ r.primacy
    pub best : (m : ℕ) → Offers ps c m → Ahead ps r k m

  -- what is said of the best of the programs numbered from n on
  abbrev BestFound : ℕ → List Program → Option Ranked → Type 0
  BestFound n ps none = (m : ℕ) → Offers ps c m → ⊥
  BestFound n ps (some r) = (k : ℕ) × BestFrom n ps k r

  -- A program before the others.

  module _ (n : ℕ) (p : Program) (ps : List Program) where
    abbrev here : Ranked
    here = record { number = n; primacy = p.primacy }

    down : (m : ℕ) → Offers (p ∷ ps) c (suc m) → Offers ps c m
    down m o = (omega (arith, o.0), o.1, o.2)

    -- it has no default for the control
    nobody : (Offers (p ∷ ps) c 0 → ⊥) → ((m : ℕ) → Offers ps c m → ⊥) → (m : ℕ) → Offers (p ∷ ps) c m → ⊥
    nobody f g zero o = f o
    nobody f g (suc m) o = g m (down m o)

    -- it is best if it is no worse than the best of the others
    first : Offers (p ∷ ps) c 0 → ((m : ℕ) → Offers ps c m → p.primacy ≤ (program_at ps m).primacy) → BestFrom n (p ∷ ps) 0 here
    first o f = record { number = omega arith; offers = o; primacy = refl; best = best }
      where
        best : (m : ℕ) → Offers (p ∷ ps) c m → Ahead (p ∷ ps) here 0 m
        best zero a = inr (refl, omega arith)
        best (suc m) a = ⊎_elim (λ e. inr (e, omega arith)) (λ l. inl l) (eq-or-lt_of_le (f m (down m a)))

    -- the best of the others stays best if it is better
    later : (k : ℕ) (q : Ranked) → BestFrom (suc n) ps k q → (Offers (p ∷ ps) c 0 → q.primacy < p.primacy) → BestFrom n (p ∷ ps) (suc k) q
    later k q v f = record { number = omega (arith, v.number); offers = (omega (arith, v.offers.0), v.offers.1, v.offers.2); primacy = v.primacy; best = best }
      where
        best : (m : ℕ) → Offers (p ∷ ps) c m → Ahead (p ∷ ps) q (suc k) m
        best zero a = inl (f a)
        best (suc m) a = ⊎_elim (λ l. inl l) (λ r. inr (r.0, omega (arith, r.1))) (v.best m (down m a))

    -- no worse than the best is no worse than any
    no_worse : (k : ℕ) (q : Ranked) → BestFrom (suc n) ps k q → p.primacy ≤ q.primacy → (m : ℕ) → Offers ps c m → p.primacy ≤ (program_at ps m).primacy
    no_worse k q v l m o = ⊎_elim (λ d. omega arith) (λ r. omega (arith, r.0)) (v.best m o)

    add : (b : Bool) → (p.added && has p.defaults c) ≡ b → (o : Option Ranked) → BestFound (suc n) ps o → BestFound n (p ∷ ps) (best_of (cond b (some here) none) o)
    add false e none f = nobody (λ o. both (p.added && has p.defaults c) (cc (o.1, o.2)) e) f
    add false e (some q) v = (suc v.0, later v.0 q v.1 (λ o. both (p.added && has p.defaults c) (cc (o.1, o.2)) e))
    add true e none f = let r = each_true p.added (has p.defaults c) e in (0, first (omega arith, r.0, r.1) (λ m o. absurd (f m o)))
    add true e (some q) v = go (leb p.primacy q.primacy) refl
      where
        go : (d : Bool) → leb p.primacy q.primacy ≡ d → BestFound n (p ∷ ps) (cond d (some here) (some q))
        go true g =
            let r = each_true p.added (has p.defaults c) e in
            (0, first (omega arith, r.0, r.1) (no_worse v.0 q v.1 (leb-true p.primacy q.primacy g)))
        go false g = (suc v.0, later v.0 q v.1 (λ o. leb-false p.primacy q.primacy g))

  found : (n : ℕ) (ps : List Program) → BestFound n ps (best_default c n ps)
  unfolding best_default
  found n [] = λ m o. omega (arith, o.0)
  found n (p ∷ ps) = add n p ps (p.added && has p.defaults c) refl (best_default c (suc n) ps) (found (suc n) ps)

  -- Of all programs.

  module _ (ps : List Program) where
    best_is : (r : Ranked) → best_default c 0 ps ≡ some r → BestOffer ps c r
    best_is r e =
        let f = subst (BestFound 0 ps) e (found 0 ps) in
        let v : BestFrom 0 ps r.number r = subst (λ k. BestFrom 0 ps k r) (omega (arith, f.1.number)) f.1 in
        record { offers = v.offers; primacy = v.primacy; best = v.best }

    -- two that are better than all are one
    one : (k : ℕ) (q r : Ranked) → BestFrom 0 ps k q → BestOffer ps c r → q ≡ r
    one k q r v b = let e = go (v.best r.number b.offers) (b.best k v.offers) in λ i. record { number = e.0 i; primacy = e.1 i }
      where
        go : Ahead ps q k r.number → Ahead ps r r.number k → (q.number ≡ r.number) × (q.primacy ≡ r.primacy)
        go (inl x) (inl y) = absurd (omega (arith, v.primacy, b.primacy))
        go (inl x) (inr y) = absurd (omega (arith, v.primacy, b.primacy, y.0))
        go (inr x) (inl y) = absurd (omega (arith, v.primacy, b.primacy, x.0))
        go (inr x) (inr y) = (omega (arith, v.number, x.1, y.1), omega (arith, b.primacy, x.0))

    is_best : (r : Ranked) → BestOffer ps c r → best_default c 0 ps ≡ some r
    is_best r b = go (best_default c 0 ps) (found 0 ps)
      where
        go : (o : Option Ranked) → BestFound 0 ps o → o ≡ some r
        go none f = absurd (f r.number b.offers)
        go (some q) f = ap some (one f.0 q r f.1 b)

    none_is : ((n : ℕ) → Offers ps c n → ⊥) → best_default c 0 ps ≡ none
    none_is f = go (best_default c 0 ps) (found 0 ps)
      where
        go : (o : Option Ranked) → BestFound 0 ps o → o ≡ none
        go none g = refl
        go (some q) g = absurd (f g.0 g.1.offers)

pub default_clause : DefaultClause
default_clause = record {
  best = λ ps c r. (best_is c ps r, is_best c ps r);
  nobody = λ ps c. (λ e. subst (BestFound c 0 ps) e (found c 0 ps), none_is c ps);
}
