-- A digit and the byte, or the digits and then the byte.
use native.Mathlib.Omega.{arith}
use Rattle.text.proofs.Printing.{put_then, decimal_within}
use Rattle.text.proofs.Digits.{decimal_one}
use Rattle.text.proofs.writing.Text.number.Goals as goal

pub returns-then-x-lt10 : goal.returns-then-x-lt10
returns-then-x-lt10 c = rw (decimal_one 19 c.args.x (omega arith)) c.put.ensures

-- there is a place for the byte
pub put-requires-2 : goal.put-requires-2
put-requires-2 c = omega (arith, decimal_within _ _ c.decimal.ensures)

pub returns : goal.returns
returns c = put_then (omega arith) c.decimal.ensures c.put-2.ensures
