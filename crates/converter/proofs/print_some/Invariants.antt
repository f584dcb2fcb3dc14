-- Line by line: what is known before the next one is `Printing`.
use Prim.Native.Nat.{◌-◌}
use lib.ListN.{length}
use Rattle.converter.proofs.Printing.{Printing}
use Rattle.converter.proofs.print_some.Given as goal

abbrev pub invariant-loop-at : goal.invariant-loop-at
invariant-loop-at l = Printing l.to l.piece l.pending l.initial.out l.from l.at l.out

abbrev pub decreases-loop-at : goal.decreases-loop-at
decreases-loop-at l = length l.piece - l.from
