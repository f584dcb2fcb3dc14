-- One pair of digits, or two.
use native.Mathlib.Omega.{arith}
use Rattle.rules.specs.Printed.{decimal}
use Rattle.text.proofs.Printing.{decimal_within}
use Rattle.text.proofs.Digits.{enough, decimal_more, put_front}
use Rattle.text.proofs.writing.Text.below_myriad.Goals as goal

pub returns-then-x-lt100 : goal.returns-then-x-lt100
returns-then-x-lt100 c =
    rw (enough 1 2 c.args.x (omega arith)) c.below_hundred.ensures

pub put_two-requires : goal.put_two-requires
put_two-requires c = record { below = omega arith; room = omega (arith, decimal_within _ _ c.below_hundred-2.ensures) }

pub returns : goal.returns
returns c =
    put_front decimal 10 decimal_more 2 2 c.args.x (omega arith) (omega arith) c.below_hundred-2.ensures c.put_two.ensures
