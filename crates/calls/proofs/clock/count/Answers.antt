use native.Mathlib.Omega.{arith}
use Rattle.calls.proofs.Turns.{none_counted, count_next, all_counted}
use Rattle.calls.proofs.clock.count.Goals as goal

pub loop-place-preserved : goal.loop-place-preserved
loop-place-preserved c = count_next c.loop-place.invariant c.in-Some.ensures.steps (c.requires.1 _ (c.loop-place.invariant.within _ c.in-Some.ensures.steps.here))

pub loop-place-init : goal.loop-place-init
loop-place-init c = rw (c.into_iter-place-iterator.ensures.into_iter_gives, c.of-place-items.ensures) (none_counted c.args.set _ c.requires.0)

pub offset_bounds-slots-place : goal.offset_bounds-slots-place
offset_bounds-slots-place c = omega (arith, c.requires.1 _ (c.loop-place.invariant.within _ c.in-Some.ensures.steps.here))

pub bounds-slots-place : goal.bounds-slots-place
bounds-slots-place c = omega (arith, c.requires.1 _ (c.loop-place.invariant.within _ c.in-Some.ensures.steps.here))

pub returns : goal.returns
returns c = all_counted c.loop-place.invariant c.in-None.ensures.steps.0
