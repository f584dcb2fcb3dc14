-- The held mask of the event has the control, and its user is in.
use mathlib.Core.Path.{ap}
use mathlib.Core.Bool.{not, ◌&&◌}
use Rattle.calls.proofs.programs.is_governor.Goals as goal

pub returns : goal.returns
returns c =
    ap (λ b. b && not c.args.h.now.choice.out) c.is_in.ensures
