-- Laws of tests: what a Bool that came out true or false says of its parts.
use mathlib.Core.Path.{◌≡◌, refl, sym, ◌∙◌}
use Prim.Native.Nat.{ℕ}
use mathlib.Core.Bool.{Bool, true, false, cond, ◌&&◌, ◌||◌, true≢false}
use lib.Dec.{eqb}

pub both : {P : Type 0} (b : Bool) → b ≡ true → b ≡ false → P
both b p q = absurd (true≢false (sym p ∙ q))

pub either_false : (a b : Bool) → (a || b) ≡ false → (a ≡ false) × (b ≡ false)
either_false true b e = both true refl e
either_false false b e = (refl, e)

pub each_true : (a b : Bool) → (a && b) ≡ true → (a ≡ true) × (b ≡ true)
each_true true b e = (refl, e)
each_true false b e = both false e refl

-- no number was given: the first test failed, and none of the others gave one
pub first_not : (n : ℕ) (b : Bool) (r : ℕ) → eqb n 0 ≡ false → eqb (cond b n r) 0 ≡ true → (b ≡ false) × (eqb r 0 ≡ true)
first_not n true r z e = both (eqb n 0) e z
first_not n false r z e = (refl, e)

-- a choice whose first test of three holds
pub cond_first : {A : Type 0} (a b c : Bool) (x y : A) → a ≡ true → cond (a || b || c) x y ≡ x
cond_first true b c x y e = refl
cond_first false b c x y e = both false e refl

-- a choice between two that are the same
pub cond_same : {A : Type 0} (b : Bool) (x : A) → cond b x x ≡ x
cond_same true x = refl
cond_same false x = refl
