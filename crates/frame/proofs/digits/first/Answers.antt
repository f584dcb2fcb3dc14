-- The first two bytes are the first pair.
use mathlib.Core.Path.{sym}
use native.Mathlib.Omega.{arith}
use Rattle.frame.proofs.Pairs.{no_pair, first_pair}
use Rattle.frame.proofs.digits.first.Goals as goal

pub returns-in_default : goal.returns-in_default
returns-in_default c = sym (no_pair c.args.line.now (omega arith))

pub returns : goal.returns
returns c =
    rw (c.nibble-2.ensures, c.nibble.ensures) (sym (first_pair c.args.line.now (omega arith)))
