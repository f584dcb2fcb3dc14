-- The fields, and the drawn duration.
use Rattle.rules.specs.Sound.{malformed}
use Rattle.rules.proofs.Event.is_malformed.Goals as goal

pub returns : goal.returns
unfolding malformed
returns c = rw (c.is_out_of_range.ensures, c.lifted.ensures)
