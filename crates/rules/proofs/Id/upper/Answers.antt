-- The upper half of the number.
use mathlib.Core.Path.{sym}
use native.Mathlib.Omega.{arith}
use Rattle.rules.specs.Records.{id_number}
use Rattle.rules.proofs.IdLaws.{upper_half}
use Rattle.rules.proofs.Id.upper.Goals as goal

pub returns : goal.returns
unfolding id_number
returns c = sym (upper_half _ _ (omega (arith, c)))
