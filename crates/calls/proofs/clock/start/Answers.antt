use Rattle.calls.proofs.Turns.{none_started, can_come, start_next, all_started}
use Rattle.calls.proofs.clock.start.Goals as goal

pub loop-place-init : goal.loop-place-init
loop-place-init c = rw (c.into_iter-place-iterator.ensures.into_iter_gives, c.of-place-items.ensures) (none_started c.requires)

pub contend-now-requires : goal.contend-now-requires
contend-now-requires c = can_come c.loop-place.invariant c.in-Some.ensures.steps

pub loop-place-preserved : goal.loop-place-preserved
loop-place-preserved c = start_next c.loop-place.invariant c.in-Some.ensures.steps c.contend-now.ensures

pub returns : goal.returns
returns c = all_started c.loop-place.invariant c.in-None.ensures.steps.0
