-- The changes from `from` to `next` are taken.
use Prim.Native.Nat.{◌-◌}
use Rattle.calls.specs.Agenda.{agenda_size}
use Rattle.calls.proofs.Changes.{Taking}
use Rattle.calls.proofs.agenda.take.Given as goal

abbrev pub invariant-loop-next : goal.invariant-loop-next
invariant-loop-next l = Taking l.agenda l.from l.bound l.places l.next

abbrev pub decreases-loop-next : goal.decreases-loop-next
decreases-loop-next l = agenda_size - l.next
