-- The drawn start is the start moved by its draw.
use mathlib.Core.Path.{ap}
use Rattle.rules.specs.Period.{drawn_start, dated}
use Rattle.rules.proofs.Event.drawn_start.Goals as goal

pub returns : goal.returns
unfolding drawn_start
returns c = ap (λ t. dated t c.args.self) c.moved.ensures
