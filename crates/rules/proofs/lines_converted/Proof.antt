-- The promise is the theorem: the tables were evaluated.
use Rattle.rules.proofs.Witnessed.{convert_tables}
use Rattle.rules.proofs.lines_converted.Statement.{statement}
use Rattle.rules.proofs.lines_converted.Tie as tie

returns : tie.Need-returns
returns c = convert_tables

pub lines_converted_spec : {M : Type 1} → statement M
lines_converted_spec = tie.close (tie.spec returns)
