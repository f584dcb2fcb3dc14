-- The promise is the theorem: the tables were evaluated.
use Rattle.rules.proofs.Witnessed.{call_tables}
use Rattle.rules.proofs.calls_answered.Statement.{statement}
use Rattle.rules.proofs.calls_answered.Tie as tie

returns : tie.Need-returns
returns c = call_tables

pub calls_answered_spec : {M : Type 1} → statement M
calls_answered_spec = tie.close (tie.spec returns)
