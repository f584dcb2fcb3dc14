-- The events that are not in the rest have begun.
use Rattle.calls.proofs.Turns.{Starting}
use Rattle.calls.proofs.clock.start.Given as goal

abbrev pub invariant-loop-place : goal.invariant-loop-place
invariant-loop-place l = Starting l.d l.initial.slots l.holding l.starting l.slots l.now l.place-iterator.rest
