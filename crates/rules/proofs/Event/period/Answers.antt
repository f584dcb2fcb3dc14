-- The period: the later of drawn start and receipt clock + 1, the effective end, counted from the drawn start, and the earliest start.
use mathlib.Core.Path.{ap, ap₂, ◌∙◌}
use Prim.Native.Nat.{ℕ, ◌+◌, max}
use Rattle.rules.specs.declared.Period.{Period}
use Rattle.rules.specs.Period.{plus, drawn_start, effective_start, effective_end}
use Rattle.rules.proofs.Event.period.Goals as goal

abbrev times : ℕ → ℕ → ℕ → Period
times s e earliest = record { start = s; end = e; earliest = earliest }

-- What `ends` ends in is written out, so that of a fault in the code the refusal names the number that stands for another.
pub returns : goal.returns
unfolding effective_start effective_end drawn_start
returns c =
    let e = c.args.self in
    let drawn = c.moved-drawn_start.ensures in
    let starts = c.max-effective_start.ensures ∙ ap₂ (λ a b. max a (b + 1)) drawn c.min.ensures in
    let ends = ◌∙◌ {c = effective_end e} c.moved-effective_end.ensures (ap (λ t. plus (t + e.duration) e.duration_draw) drawn) in
    λ i. times (starts i) (ends i) (c.earliest_start-earliest.ensures i).time
