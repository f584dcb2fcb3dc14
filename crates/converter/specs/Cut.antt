-- Document 02, #105: how much of a line that has not ended counts.
use Rattle.std.specs.Prelude.{◌≡◌, ℕ, List, [], ◌++◌, take}
use Rattle.rules.specs.Converted.{converted}
use Rattle.frame.specs.declared.Width.{Width}
use Rattle.frame.specs.Ends.{ended_of}
use Rattle.input.specs.Kept.{most_kept}
use Rattle.convert.specs.Turns.{turned_to}

pub record CutLines : Type 0 where
  -- no more than what is kept of it
  pub cut : (to : Width) (t after : List ℕ) → ended_of t ≡ [] → converted (turned_to to) (take most_kept t ++ after) ≡ converted (turned_to to) (t ++ after)
