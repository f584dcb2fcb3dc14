-- The conditions, one after the other.
use Rattle.rules.specs.Sound.{out_of_range}
use Rattle.rules.proofs.times.is_out_of_range.Goals as goal

pub returns : goal.returns
unfolding out_of_range
returns c = rw (c.is_drawn-2.ensures, c.is_drawn.ensures, c.is_outside-2.ensures, c.is_outside.ensures)
