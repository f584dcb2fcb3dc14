-- The loop has copied the first i.
use lib.ListN.{take}
use Rattle.octets.proofs.Writes.{Wrote}
use Rattle.octets.proofs.copy.Given as goal

abbrev pub invariant-loop-i : goal.invariant-loop-i
invariant-loop-i l = Wrote l.initial.to l.at (take l.i l.from) l.to
