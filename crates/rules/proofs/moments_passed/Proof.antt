-- The promise is the theorem: the table was evaluated.
use Rattle.rules.proofs.Witnessed.{moments_evaluate}
use Rattle.rules.proofs.moments_passed.Statement.{statement}
use Rattle.rules.proofs.moments_passed.Tie as tie

returns : tie.Need-returns
returns c = moments_evaluate

pub moments_passed_spec : {M : Type 1} → statement M
moments_passed_spec = tie.close (tie.spec returns)
