-- What is kept of a line stays short.
use Prim.Native.Nat.{◌≤◌}
use lib.ListN.{length}
use Rattle.input.specs.Kept.{most_kept}
use Rattle.input.proofs.run.Given as goal

abbrev pub invariant-loop-turn : goal.invariant-loop-turn
invariant-loop-turn g l = length l.input ≤ most_kept
