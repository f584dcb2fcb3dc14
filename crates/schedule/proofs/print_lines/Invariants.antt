-- What is left of the piece gets shorter with each run that takes a line. What the runs wrote and what is still to be written are together what is written for the piece.
use mathlib.Core.Path.{◌≡◌}
use Prim.Native.Nat.{ℕ, ◌-◌, ◌≤◌}
use mathlib.Core.Bool.{true}
use mathlib.Core.List.{List, ◌++◌}
use lib.ListN.{length, drop}
use Rattle.rules.specs.declared.Schedule.{Schedule}
use Rattle.rules.specs.Sound.{sound}
use Rattle.rules.specs.Printed.{lines_of, tell_all}
use Rattle.frame.specs.Ends.{ended_of}
use Rattle.schedule.proofs.print_lines.Given as goal

-- before each run: `text` is what the runs before it wrote, and all that is still to be written comes behind it
pub record Printed (first : Schedule) (piece : List ℕ) (s : Schedule) (from : ℕ) : Type 0 where
  pub text : List ℕ
  pub lines : (after : List ℕ) → tell_all first (lines_of (piece ++ after)) ≡ text ++ tell_all s (lines_of (drop from piece ++ after))
  pub ended : tell_all first (ended_of piece) ≡ text ++ tell_all s (ended_of (drop from piece))

abbrev pub invariant-loop-ran : goal.invariant-loop-ran
invariant-loop-ran g l = (sound l.s ≡ true) × (l.from ≤ length l.piece) × Printed l.initial.s l.piece l.s l.from

abbrev pub decreases-loop-ran : goal.decreases-loop-ran
decreases-loop-ran g l = length l.piece - l.from
