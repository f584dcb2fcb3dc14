-- Two digits or one.
use mathlib.Core.Path.{◌≡◌}
use Prim.Native.Nat.{◌/◌, ◌%◌}
use native.Mathlib.Omega.{arith}
use Rattle.text.specs.Texts.{padded}
use Rattle.text.proofs.Digits.{decimal_one, decimal_more}
use Rattle.text.proofs.writing.Text.below_hundred.Goals as goal

pub returns-then-x-gt9 : goal.returns-then-x-gt9
unfolding padded
returns-then-x-gt9 c =
    let x = c.args.x in
    let e : x / 10 % 10 ≡ x / 10 = omega arith in
    rw (decimal_more 1 x (omega arith), decimal_one 0 (x / 10) (omega arith)) (rw e at c.put_two.ensures)

pub returns : goal.returns
returns c = rw (decimal_one 1 c.args.x (omega arith)) c.put.ensures
