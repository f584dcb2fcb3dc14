-- The zeros stand between the two parts that the line was split into.
use Rattle.rules.specs.Converted.{widened}
use Rattle.convert.proofs.widen.Goals as goal

pub returns : goal.returns
unfolding widened
returns c = rw (c.split_at.ensures.front, c.split_at.ensures.back) at c.write.ensures
