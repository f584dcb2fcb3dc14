use Rattle.calls.proofs.Turns.{none_released, release_next, all_released}
use Rattle.calls.proofs.clock.release.Goals as goal

pub loop-place-init : goal.loop-place-init
loop-place-init c = rw (c.into_iter-place-iterator.ensures.into_iter_gives, c.of-place-items.ensures) (none_released c.args.ended c.args.holding _ c.requires.0)

pub hold-now-requires : goal.hold-now-requires
hold-now-requires c = (c.requires.1 _ (c.loop-place.invariant.within _ c.in-Some.ensures.steps.here), c.loop-place.invariant.masks.size)

pub loop-place-preserved : goal.loop-place-preserved
loop-place-preserved c = release_next c.loop-place.invariant c.in-Some.ensures.steps c.hold-now.ensures.0 c.hold-now.ensures.1

pub returns : goal.returns
returns c = all_released c.loop-place.invariant c.in-None.ensures.steps.0
