-- Eight digits at the most, or eight behind those of the front. The front is a smaller number, so that the calls end.
use Rattle.rules.specs.Records.{halves}
use Rattle.text.proofs.writing.Text.+wide.Given as goal

abbrev pub decreases-wide : goal.decreases-wide
decreases-wide l = halves l.high l.low
