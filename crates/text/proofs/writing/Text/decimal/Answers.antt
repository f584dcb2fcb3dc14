-- Up to eight digits, or eight more, or sixteen more.
use Prim.Native.Nat.{◌/◌, ◌^◌}
use native.Mathlib.Omega.{arith}
use Rattle.rules.specs.Printed.{decimal}
use Rattle.text.specs.Texts.{padded}
use Rattle.text.proofs.Printing.{decimal_within}
use Rattle.text.proofs.Digits.{enough, decimal_more, put_front}
use Rattle.text.proofs.writing.Text.decimal.Goals as goal

pub returns-then-x-lt100000000 : goal.returns-then-x-lt100000000
returns-then-x-lt100000000 c =
    rw (enough 7 12 c.args.x (omega arith)) c.below_eight.ensures

pub put_eight-requires : goal.put_eight-requires
put_eight-requires c = record { below = omega arith; room = omega (arith, decimal_within _ _ c.below_eight-then-high-lt100000000.ensures) }

pub returns-then-high-lt100000000 : goal.returns-then-high-lt100000000
returns-then-high-lt100000000 c =
    let x = c.args.x in
    put_front decimal 10 decimal_more 12 8 x (omega arith) (omega arith)
    (rw (enough 7 4 (x / 10 ^ 8) (omega arith)) c.below_eight-then-high-lt100000000.ensures)
    c.put_eight.ensures

pub put_eight-requires-2 : goal.put_eight-requires-2
put_eight-requires-2 c = record { below = omega arith; room = omega (arith, decimal_within _ _ c.below_myriad.ensures) }

pub put_eight-requires-3 : goal.put_eight-requires-3
unfolding padded
put_eight-requires-3 c = record { below = omega arith; room = omega (arith, decimal_within _ _ c.below_myriad.ensures, c.put_eight-2.ensures.stands.end, c.put_eight-2.ensures.size) }

pub returns : goal.returns
returns c =
    let x = c.args.x in
    put_front decimal 10 decimal_more 12 8 x (omega arith) (omega arith)
    (put_front decimal 10 decimal_more 4 8 (x / 10 ^ 8) (omega arith) (omega arith) c.below_myriad.ensures c.put_eight-2.ensures)
    c.put_eight-3.ensures
