-- The raw end or the effective end, each against the clock as the definition has it.
use Rattle.rules.specs.Refusals.{late}
use Rattle.calls.proofs.events.is_late.Goals as goal

pub returns : goal.returns
unfolding late
returns c = rw c.effective_end-end.ensures
