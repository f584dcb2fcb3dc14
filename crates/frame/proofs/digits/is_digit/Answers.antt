-- The two ranges are those of the definition.
use mathlib.Core.Path.{◌≡◌, refl, sym}
use Prim.Native.Nat.{ℕ, ◌-◌}
use mathlib.Core.Bool.{Bool, true, false, cond, ◌&&◌, ◌||◌}
use native.Mathlib.Omega.{arith}
use borrow.Author.Tests.{lt-ltb, leb-true}
use lib.Dec.{leb, ltb}
use Rattle.rules.specs.Frames.{digit}
use Rattle.rules.proofs.Tests.{each_true}
use Rattle.frame.proofs.digits.is_digit.Goals as goal

in-range : (x : ℕ) → ((leb 48 x && leb x 57) || (leb 65 x && leb x 70)) ≡ ltb (digit x) 16
unfolding digit
in-range x = by (leb 48 x && leb x 57) refl (leb 65 x && leb x 70) refl
  where
    by : (a : Bool) → (leb 48 x && leb x 57) ≡ a → (b : Bool) → (leb 65 x && leb x 70) ≡ b → (a || b) ≡ ltb (cond a (x - 48) (cond b (x - 55) 16)) 16
    by true p b q = sym (lt-ltb (x - 48) 16 (omega (arith, leb-true x 57 (each_true (leb 48 x) (leb x 57) p).1)))
    by false p true q = sym (lt-ltb (x - 55) 16 (omega (arith, leb-true x 70 (each_true (leb 65 x) (leb x 70) q).1)))
    by false p false q = refl

pub returns : goal.returns
returns c = in-range c.args.c
