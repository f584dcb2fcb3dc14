-- Those that are not in the rest have been met.
use Rattle.calls.proofs.Turns.{Contesting}
use Rattle.calls.proofs.settle.contend.Given as goal

abbrev pub invariant-loop-rival : goal.invariant-loop-rival
invariant-loop-rival l = Contesting l.d l.i l.initial.slots l.holding l.slots l.left l.now l.rival-iterator.rest
