-- A piece of input in a buffer, and what is kept of a line that has not ended in it.
use Rattle.std.specs.Prelude.{◌≡◌, ℕ, ◌+◌, ◌-◌, ◌≤◌, min, cond, ◌&&◌, List, leb, length, take, drop}
use Rattle.rules.specs.Lists.{over}
use Rattle.frame.specs.Decoded.{longest_line}

-- bytes of a program's buffers
abbrev pub buffer_size : ℕ
buffer_size = 65536

-- no more is kept of a line that has not ended: with one byte more than the longest it is no frame
abbrev pub most_kept : ℕ
most_kept = longest_line + 1

-- what stands between two places of a buffer
pub record Within (from to : ℕ) (buffer : List ℕ) : Type 0 where
  pub ordered : from ≤ to
  pub there : to ≤ length buffer

-- the first r bytes of it, as many as can matter, stand at the front
pub record KeepsLine (from to : ℕ) (old new : List ℕ) (r : ℕ) : Type 0 where
  pub count : r ≡ min most_kept (to - from)
  pub front : take r new ≡ take r (drop from old)

-- how many of the bytes between two places are kept, and the buffer with them at its front; none of places that are not in it
unfoldable pub kept : (from to : ℕ) → List ℕ → ℕ × List ℕ
kept from to l =
    let n = min most_kept (to - from) in
    cond (leb from to && leb to (length l)) (n, over (take n (drop from l)) l) (0, l)
