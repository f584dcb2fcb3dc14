-- The loop has written the first i pairs.
use lib.ListN.{take}
use Rattle.octets.proofs.Writes.{Wrote}
use Rattle.frame.specs.Encoded.{hexed}
use Rattle.frame.proofs.digits.put_pairs.Given as goal

abbrev pub invariant-loop-i : goal.invariant-loop-i
invariant-loop-i l = Wrote l.initial.out 0 (hexed (take l.i l.bytes)) l.out
