-- What the functions under the decoder promise: a kind's size, its frame from the bytes, and the pairs of a line as bytes.
use Rattle.std.specs.Prelude.{◌≡◌, ℕ, ◌*◌, ◌/◌, ◌<◌, ◌≤◌, Bool, true, cond, List, ltb, eqb, length, take, get_or}
use Rattle.std.proofs.Math.Option.{Option, none, some}
use Rattle.rules.specs.declared.Line.{Line}
use Rattle.rules.specs.declared.Line.TheVariants.{Good, Bad}
use Rattle.rules.specs.declared.Frame.TheVariants as frame
use Rattle.rules.specs.Lists.{each}
use Rattle.rules.specs.Records.{half_size, id_size}
use Rattle.rules.specs.Bytes.{read, id_in, event_in}
use Rattle.rules.specs.Converted.{frame_id}
use Rattle.frame.specs.declared.Width.{Width}
use Rattle.frame.specs.declared.Width.TheVariants.{Short, Long}
use Rattle.frame.specs.declared.Shape.{Shape}
use Rattle.frame.specs.declared.Shape.TheVariants.{NoFrame, WithoutId, WithId}
use Rattle.rules.specs.Frames.{event_frame_in, event_frame, id_frame_in, clock_frame, program_frame, ask_frame, digit, paired, unhex}

-- Document 02, #105, how many bytes an id has in a frame
abbrev pub width_of : Width → ℕ
width_of Short = half_size
width_of Long = id_size

-- what a line is: no frame, a frame without an id, or one with an id
abbrev pub shape_by : Option ℕ → Shape
shape_by none = WithoutId
shape_by (some i) = WithId

abbrev pub shape_of : Line → Shape
shape_of (Good f) = shape_by (frame_id f)
shape_of Bad = NoFrame

-- Frames and image, how many bytes a frame of a kind has, 0 for a number that is no kind; document 02, #105: with ids of w bytes, and with mRIDs
unfoldable pub size_in : (w : ℕ) → ℕ → ℕ
size_in w kind =
    cond (eqb kind 1) (event_frame_in w)
    (cond (eqb kind 2) (id_frame_in w)
    (cond (eqb kind 3) clock_frame
    (cond (eqb kind 4) program_frame
    (cond (eqb kind 5) ask_frame
    (cond (eqb kind 6) (id_frame_in w)
    (cond (eqb kind 7) (id_frame_in w)
    0))))))

abbrev pub size_of : ℕ → ℕ
size_of kind = size_in id_size kind

-- the longest line: that of an event
abbrev pub longest_line : ℕ
longest_line = 2 * event_frame

-- `frame_in` of bytes that are as many as the kind asks for
unfoldable pub frame_as_in : (w : ℕ) → ℕ → List ℕ → Line
frame_as_in w kind b =
    cond (eqb kind 1) (Good (frame.Event (event_in w 1 b)))
    (cond (eqb kind 2) (Good (frame.Cancel (id_in w 1 b)))
    (cond (eqb kind 3) (Good (frame.Clock (read 8 1 b)))
    (cond (eqb kind 4) (Good (frame.Program (read 1 1 b) (read 1 2 b) (read 4 3 b)))
    (cond (eqb kind 5) (Good (frame.Ask (read 1 1 b)))
    (cond (eqb kind 6) (Good (frame.OptOut (id_in w 1 b)))
    (cond (eqb kind 7) (Good (frame.OptIn (id_in w 1 b)))
    Bad))))))

abbrev pub frame_as : ℕ → List ℕ → Line
frame_as kind b = frame_as_in id_size kind b

-- what a byte stands for as a digit, 256 where it is none, so that a pair with such a byte is above 255
unfoldable pub worth : ℕ → ℕ
worth c = cond (ltb (digit c) 16) (digit c) 256

-- whether every byte is a digit
abbrev pub all_digits : List ℕ → Bool
all_digits l = each (λ c. ltb (digit c) 16) l

-- a list that has this for each byte
pub record Table (t : List ℕ) : Type 0 where
  pub at : (c : ℕ) → c < 256 → get_or t c 0 ≡ worth c

-- a line of pairs, and an array with a place for the byte of each
pub record LineOfPairs (l b : List ℕ) : Type 0 where
  pub few : length l ≤ 2 * event_frame
  pub pairs : length l ≡ 2 * (length l / 2)
  pub places : length b ≡ event_frame

-- whether the pairs of a line are digits, and if so their bytes, at the front of the array
pub record Unhexed (l : List ℕ) (good : Bool) (b : List ℕ) : Type 0 where
  pub size : length b ≡ event_frame
  pub digits : good ≡ paired l
  pub bytes : good ≡ true → take (length l / 2) b ≡ unhex l
