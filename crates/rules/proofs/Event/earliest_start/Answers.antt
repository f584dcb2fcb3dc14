-- The earliest start is the lesser of the start and of the start moved by its randomisation.
use mathlib.Core.Path.{ap, ◌∙◌}
use Prim.Native.Nat.{min}
use Rattle.rules.specs.Period.{earliest_start, dated}
use Rattle.rules.proofs.Event.earliest_start.Goals as goal

pub returns : goal.returns
unfolding earliest_start
returns c =
    let e = c.args.self in
    ap (λ t. dated t e) (c.min.ensures ∙ ap (min e.start) c.moved.ensures)
