-- The seconds of the set are counted one by one.
use Rattle.calls.proofs.Turns.{Counting}
use Rattle.calls.proofs.clock.count.Given as goal

abbrev pub invariant-loop-place : goal.invariant-loop-place
invariant-loop-place l = Counting l.set l.initial.slots l.slots l.place-iterator.rest
