-- The digits below d have their entries.
use Rattle.frame.proofs.Worths.{TableBelow}
use Rattle.frame.proofs.digits.table.Given as goal

abbrev pub invariant-loop-d : goal.invariant-loop-d
invariant-loop-d l = TableBelow l.d l.values
