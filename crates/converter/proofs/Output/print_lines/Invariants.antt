-- What is left of the piece gets shorter with each block.
use Prim.Native.Nat.{◌-◌, ◌<◌}
use lib.ListN.{length}
use Rattle.converter.specs.Pieces.{block_size}
use Rattle.converter.proofs.Printing.{Sent}
use Rattle.converter.proofs.Output.print_lines.Given as goal

abbrev pub invariant-loop-to : goal.invariant-loop-to
invariant-loop-to g l = (l.self-inside.end < block_size) × Sent l.to l.piece l.fn.self l.from l.self-inside.end l.self-inside.buffer

abbrev pub decreases-loop-to : goal.decreases-loop-to
decreases-loop-to g l = length l.piece - l.from
