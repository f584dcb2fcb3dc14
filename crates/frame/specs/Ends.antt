-- The lines of a text that end with a line feed, and where the first of them ends.
use Rattle.std.specs.Prelude.{◌≡◌, ◌⊎◌, ℕ, suc, ◌*◌, ◌<◌, ◌≤◌, cond, ◌&&◌, List, [], ◌∷◌, ltb, eqb, length, take, get_or}
use Rattle.rules.specs.declared.Frame.{Frame}
use Rattle.rules.specs.declared.Line.TheVariants.{Good}
use Rattle.rules.specs.Frames.{unhex, line_in}
use Rattle.frame.specs.Decoded.{size_in}

-- a byte in front of the first line, if there is one
abbrev pub longer : ℕ → List (List ℕ) → List (List ℕ)
longer b [] = []
longer b (l ∷ ls) = (b ∷ l) ∷ ls

-- the lines of a text that end with a line feed
unfoldable pub ended_of : List ℕ → List (List ℕ)
ended_of [] = []
ended_of (b ∷ bs) = cond (eqb b 10) ([] ∷ ended_of bs) (longer b (ended_of bs))

-- how many bytes stand before the first line feed
unfoldable pub up_to : List ℕ → ℕ
up_to [] = 0
up_to (b ∷ bs) = cond (eqb b 10) 0 (suc (up_to bs))

-- Frames and image, where the first line of a text ends if it is a frame's with ids of w bytes, whose kind tells how long it is; 0 if no line feed stands there
unfoldable pub likely_end : (w : ℕ) → List ℕ → ℕ
likely_end w text =
    let end = 2 * size_in w (get_or (unhex text) 0 0) in
    cond (ltb end (length text) && eqb (get_or text end 0) 10) end 0

-- where the first line may end: behind it a line feed stands, unless nothing was found; a line that has ended and is a frame with ids of w bytes is found
pub record LikelyEnd (w : ℕ) (text : List ℕ) (end : ℕ) : Type 0 where
  pub within : end ≤ length text
  pub feed : (end ≡ 0) ⊎ ((end < length text) × (get_or text end 0 ≡ 10))
  pub found : up_to text < length text → (f : Frame) → line_in w (take (up_to text) text) ≡ Good f → end ≡ up_to text
