-- Four digits, or four more.
use native.Mathlib.Omega.{arith}
use Rattle.rules.specs.Printed.{decimal}
use Rattle.text.proofs.Printing.{decimal_within}
use Rattle.text.proofs.Digits.{enough, decimal_more, put_front}
use Rattle.text.proofs.writing.Text.below_eight.Goals as goal

pub returns-then-x-lt10000 : goal.returns-then-x-lt10000
returns-then-x-lt10000 c =
    rw (enough 3 4 c.args.x (omega arith)) c.below_myriad.ensures

pub put_four-requires : goal.put_four-requires
put_four-requires c = record { below = omega arith; room = omega (arith, decimal_within _ _ c.below_myriad-2.ensures) }

pub returns : goal.returns
returns c =
    put_front decimal 10 decimal_more 4 4 c.args.x (omega arith) (omega arith) c.below_myriad-2.ensures c.put_four.ensures
