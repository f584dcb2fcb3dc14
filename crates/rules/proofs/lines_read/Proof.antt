-- The promise is the theorem: the table was evaluated.
use Rattle.rules.proofs.Witnessed.{lines_evaluate}
use Rattle.rules.proofs.lines_read.Statement.{statement}
use Rattle.rules.proofs.lines_read.Tie as tie

returns : tie.Need-returns
returns c = lines_evaluate

pub lines_read_spec : {M : Type 1} → statement M
lines_read_spec = tie.close (tie.spec returns)
