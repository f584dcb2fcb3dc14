-- The promise is the theorem: the table was evaluated.
use Rattle.rules.proofs.Evaluated.{choices_hold_lem}
use Rattle.rules.proofs.choices_counted.Statement.{statement}
use Rattle.rules.proofs.choices_counted.Tie as tie

returns : tie.Need-returns
returns c = choices_hold_lem

pub choices_counted_spec : {M : Type 1} → statement M
choices_counted_spec = tie.close (tie.spec returns)
