-- The rows of the set are written one by one.
use Rattle.calls.specs.Sets.{kind_number}
use Rattle.calls.proofs.Turns.{Reporting}
use Rattle.calls.proofs.clock.report.Given as goal

abbrev pub invariant-loop-place : goal.invariant-loop-place
invariant-loop-place l = Reporting l.t (kind_number l.kind) l.slots l.set l.initial.rows l.from l.rows l.at l.place-iterator.rest
