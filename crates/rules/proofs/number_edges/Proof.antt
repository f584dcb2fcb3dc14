-- The promise is the theorem: the table was evaluated.
use Rattle.rules.proofs.Evaluated.{edges_hold_lem}
use Rattle.rules.proofs.number_edges.Statement.{statement}
use Rattle.rules.proofs.number_edges.Tie as tie

returns : tie.Need-returns
returns c = edges_hold_lem

pub number_edges_spec : {M : Type 1} → statement M
number_edges_spec = tie.close (tie.spec returns)
