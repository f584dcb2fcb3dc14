-- The loop has the first bytes of the number left to write, those before i.
use Prim.Native.Nat.{◌-◌, ◌≤◌}
use Rattle.octets.proofs.Writes.{NumberLeft}
use Rattle.octets.proofs.put.Given as goal

abbrev pub invariant-loop-i : goal.invariant-loop-i
invariant-loop-i l = (l.at ≤ l.i) × NumberLeft l.initial.b l.at l.n l.x l.b l.rest (l.i - l.at)
