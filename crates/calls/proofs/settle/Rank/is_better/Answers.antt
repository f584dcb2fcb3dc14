-- Key by key.
use mathlib.Core.Path.{◌≡◌, sym, ◌∙◌}
use Prim.Native.Nat.{ℕ}
use native.Mathlib.Omega.{arith}
use mathlib.Core.Bool.{Bool, or-false}
use lib.Dec.{ltb}
use borrow.Author.Tests.{le-ltb, eq-eqb, ne_eqb}
use Rattle.rules.proofs.IdLaws.{before}
use Rattle.rules.specs.Holding.{better, key}
use Rattle.calls.proofs.settle.Rank.is_better.Goals as goal

-- One key of a rank decides, or leaves it to the next.
decides : (x y : ℕ) (n : Bool) → (x ≡ y → ⊥) → ltb x y ≡ key x y n
unfolding key
decides x y n d = rw (ne_eqb x y d, or-false)

leaves : (x y : ℕ) (r n : Bool) → x ≡ y → r ≡ n → r ≡ key x y n
unfolding key
leaves x y r n e q = rw (le-ltb x y (omega arith), eq-eqb x y e) q

pub returns-then-self-other : goal.returns-then-self-other
unfolding better
returns-then-self-other c = rw (← c.self.view_is, ← c.other.view_is) (decides _ _ _ c.if-self-other.true)

pub returns-then-self-other-2 : goal.returns-then-self-other-2
unfolding better
returns-then-self-other-2 c = rw (← c.self.view_is, ← c.other.view_is) (leaves _ _ _ _ c.if-self-other.false (decides _ _ _ (λ e. c.if-self-other-2.true (sym e))))

pub returns : goal.returns
unfolding better
returns c = rw (← c.self.view_is, ← c.other.view_is) (leaves _ _ _ _ c.if-self-other.false (leaves _ _ _ _ (sym c.if-self-other-2.false) (c.lt.ensures ∙ before _ _)))
