-- Better is a strict order of ranks: nobody is better than itself, it carries over, and of two with different ids one is better.
use mathlib.Core.Path.{◌≡◌, refl, ◌∙◌}
use mathlib.Core.Logic.{◌⊎◌, inl, inr}
use Prim.Native.Nat.{ℕ, ◌<◌}
use mathlib.Core.Bool.{Bool, true, false, ◌&&◌, ◌||◌, or-true}
use native.Mathlib.Omega.{arith}
use lib.Dec.{ltb, eqb}
use borrow.Author.Tests.{ltb-true, ltb-false, lt-ltb, le-ltb, eqb-true, eq-eqb}
use Rattle.rules.specs.Holding.{Rank, key, better}
use Rattle.rules.proofs.Tests.{both}

-- One key, and then the next.

key_one : (x y : ℕ) (n m : Bool) → (n ≡ true) ⊎ (m ≡ true) → (key x y n ≡ true) ⊎ (key y x m ≡ true)
unfolding key
key_one x y n m o = go (ltb x y) (ltb y x) refl refl o
  where
    go : (b c : Bool) → ltb x y ≡ b → ltb y x ≡ c → (n ≡ true) ⊎ (m ≡ true) → ((b || (eqb x y && n)) ≡ true) ⊎ ((c || (eqb y x && m)) ≡ true)
    go true c p q o = inl refl
    go false true p q o = inr refl
    go false false p q (inl e) = inl (rw (eq-eqb x y (omega (arith, ltb-false x y p, ltb-false y x q)), e))
    go false false p q (inr e) = inr (rw (eq-eqb y x (omega (arith, ltb-false x y p, ltb-false y x q)), e))

key_self : (x : ℕ) (n : Bool) → n ≡ false → key x x n ≡ false
unfolding key
key_self x n e = rw (le-ltb x x (omega arith), eq-eqb x x refl, e)

key_is : (x y : ℕ) (n : Bool) → key x y n ≡ true → (x < y) ⊎ ((x ≡ y) × (n ≡ true))
unfolding key
key_is x y n e = go (ltb x y) (eqb x y) refl refl e
  where
    go : (b c : Bool) → ltb x y ≡ b → eqb x y ≡ c → (b || (c && n)) ≡ true → (x < y) ⊎ ((x ≡ y) × (n ≡ true))
    go true c p q e = inl (ltb-true x y p)
    go false true p q e = inr (eqb-true x y q, e)
    go false false p q e = both false e refl

key_less : (x y : ℕ) (n : Bool) → x < y → key x y n ≡ true
unfolding key
key_less x y n l = rw (lt-ltb x y l)

key_next : (x y : ℕ) (n : Bool) → x ≡ y → n ≡ true → key x y n ≡ true
unfolding key
key_next x y n e d = rw (eq-eqb x y e, d, or-true)

key_trans : (x y z : ℕ) (n m k : Bool) → (n ≡ true → m ≡ true → k ≡ true) → key x y n ≡ true → key y z m ≡ true → key x z k ≡ true
key_trans x y z n m k f e d = go (key_is x y n e) (key_is y z m d)
  where
    go : (x < y) ⊎ ((x ≡ y) × (n ≡ true)) → (y < z) ⊎ ((y ≡ z) × (m ≡ true)) → key x z k ≡ true
    go (inl p) (inl q) = key_less x z k (omega arith)
    go (inl p) (inr q) = key_less x z k (omega arith)
    go (inr p) (inl q) = key_less x z k (omega arith)
    go (inr p) (inr q) = key_next x z k (p.0 ∙ q.0) (f p.1 q.1)

-- The three keys.

pub better_self : (a : Rank) → better a a ≡ false
unfolding better
better_self a = key_self _ _ (key_self _ _ (le-ltb a.id a.id (omega arith)))

pub better_trans : (a b c : Rank) → better a b ≡ true → better b c ≡ true → better a c ≡ true
unfolding better
better_trans a b c = key_trans a.primacy b.primacy c.primacy _ _ _ (λ p q.
    key_trans c.created b.created a.created _ _ _
    (λ r s. lt-ltb c.id a.id (omega (arith, ltb-true b.id a.id s, ltb-true c.id b.id r))) q p)

pub better_one : (a b : Rank) → (a.id ≡ b.id → ⊥) → (better a b ≡ true) ⊎ (better b a ≡ true)
unfolding better
better_one a b d = key_one a.primacy b.primacy _ _ (key_one b.created a.created _ _ (go (ltb b.id a.id) refl))
  where
    go : (x : Bool) → ltb b.id a.id ≡ x → (x ≡ true) ⊎ (ltb a.id b.id ≡ true)
    go true p = inl refl
    go false p = inr (lt-ltb a.id b.id (let l = ltb-false b.id a.id p in omega arith))
