-- The ranges of the match are those of the definition.
use native.Mathlib.Omega.{arith}
use Rattle.frame.proofs.Pairs.{hex_low, hex_high}
use Rattle.frame.proofs.digits.digit_of.Goals as goal

pub returns-in-0-to-9 : goal.returns-in-0-to-9
returns-in-0-to-9 c = omega (arith, hex_low c.args.d (omega arith))

pub returns-in_default : goal.returns-in_default
returns-in_default c = omega (arith, hex_high c.args.d (omega arith))
