-- The lower half of the number.
use mathlib.Core.Path.{sym}
use native.Mathlib.Omega.{arith}
use Rattle.rules.specs.Records.{id_number}
use Rattle.rules.proofs.IdLaws.{lower_half}
use Rattle.rules.proofs.Id.lower.Goals as goal

pub returns : goal.returns
unfolding id_number
returns c = sym (lower_half _ _ (omega (arith, c)))
