-- The promise is the theorem: the table was evaluated.
use Rattle.rules.proofs.Sampled.{histories_hold_lem}
use Rattle.rules.proofs.histories_brought.Statement.{statement}
use Rattle.rules.proofs.histories_brought.Tie as tie

returns : tie.Need-returns
returns c = histories_hold_lem

pub histories_brought_spec : {M : Type 1} → statement M
histories_brought_spec = tie.close (tie.spec returns)
