-- The loop has looked at the programs from i on.
use mathlib.Core.Path.{◌≡◌}
use Prim.Native.Nat.{◌≤◌, ◌<◌}
use lib.ListN.{length, drop}
use Rattle.rules.specs.Records.{most_programs, most_controls}
use Rattle.rules.specs.Calls.{best_default}
use Rattle.calls.specs.Best.{ranked}
use Rattle.calls.proofs.programs.default_of.Given as goal

abbrev pub invariant-loop-i : goal.invariant-loop-i
invariant-loop-i l = (l.i ≤ most_programs) × (length l.programs ≡ most_programs) × (l.control < most_controls) × (ranked l.best ≡ best_default l.control l.i (drop l.i l.programs))
