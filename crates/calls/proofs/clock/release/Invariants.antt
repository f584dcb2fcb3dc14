-- The events of the set let go one by one.
use Rattle.calls.proofs.Turns.{Releasing}
use Rattle.calls.proofs.clock.release.Given as goal

abbrev pub invariant-loop-place : goal.invariant-loop-place
invariant-loop-place l = Releasing l.ended l.holding l.initial.slots l.slots l.now l.place-iterator.rest
