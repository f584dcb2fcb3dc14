-- The changes of the first i events are planned, at most two of each.
use Prim.Native.Nat.{◌*◌, ◌≤◌}
use Rattle.calls.proofs.Changes.{Plans, Changes}
use Rattle.calls.proofs.agenda.gather.Given as goal

abbrev pub invariant-loop-i : goal.invariant-loop-i
invariant-loop-i l = (l.i ≤ l.n) × (l.m ≤ 2 * l.i) × Plans (Changes l.clock l.to l.i l.slots) l.m l.agenda
