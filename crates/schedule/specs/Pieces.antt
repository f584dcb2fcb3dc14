-- A piece of the input: what printing its lines leaves.
use Rattle.std.specs.Prelude.{◌≡◌, ℕ, ◌≤◌, List, [], length, drop}
use Rattle.rules.specs.declared.Schedule.{Schedule}
use Rattle.frame.specs.Ends.{ended_of}
use Rattle.calls.specs.Whole.{TextGoesOn}

-- what printing leaves, if all was written: no line that has ended is left, and what is printed for the rest comes behind it
pub record Leaves (s : Schedule) (piece : List ℕ) (after : Schedule) (read : ℕ) : Type 0 where
  pub within : read ≤ length piece
  pub none_left : ended_of (drop read piece) ≡ []
  pub goes_on : TextGoesOn s piece after (drop read piece)
