-- The loop has passed i pairs.
use Rattle.frame.proofs.Passes.{PairsPassed}
use Rattle.frame.proofs.digits.read_pairs.Given as goal

abbrev pub invariant-loop-i : goal.invariant-loop-i
invariant-loop-i l = PairsPassed l.line l.i l.bytes
