-- The promise is the theorem: the example was evaluated.
use Rattle.rules.proofs.Evaluated.{worked_example}
use Rattle.rules.proofs.worked_example.Statement.{statement}
use Rattle.rules.proofs.worked_example.Tie as tie

returns : tie.Need-returns
returns c = worked_example

pub worked_example_spec : {M : Type 1} → statement M
worked_example_spec = tie.close (tie.spec returns)
