-- The promise is the theorem: the tables were evaluated.
use Rattle.rules.proofs.Witnessed.{schedule_tables}
use Rattle.rules.proofs.schedules_worked_out.Statement.{statement}
use Rattle.rules.proofs.schedules_worked_out.Tie as tie

returns : tie.Need-returns
returns c = schedule_tables

pub schedules_worked_out_spec : {M : Type 1} → statement M
schedules_worked_out_spec = tie.close (tie.spec returns)
