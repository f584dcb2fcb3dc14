-- The call of a line turned from the front of the buffer on.
use mathlib.Core.Path.{◌∙◌}
use Rattle.convert.proofs.Written.{from_front}
use Rattle.convert.proofs.shorten.Goals as goal

pub returns : goal.returns
returns c = c.turn.ensures ∙ from_front _ _
