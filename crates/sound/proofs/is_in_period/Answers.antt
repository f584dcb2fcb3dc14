-- The tests, of the times that the event's own functions work out.
use mathlib.Core.Path.{ap}
use Rattle.rules.specs.Sound.{in_period, lasting}
use Rattle.sound.proofs.is_in_period.Goals as goal

pub returns : goal.returns
unfolding in_period lasting
returns c =
    rw (ap (λ d. d.time) c.effective_end-end.ensures, ap (λ d. d.time) c.drawn_start-start.ensures)
