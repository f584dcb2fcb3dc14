-- Document 02, #105, its sentences as laws.
use Rattle.std.specs.Prelude.{◌≡◌, ◌↔◌, ℕ, ◌≤◌, List}
use Rattle.std.proofs.Math.Option.{none, some}
use Rattle.rules.specs.declared.Frame.{Frame}
use Rattle.rules.specs.declared.Line.TheVariants.{Good, Bad}
use Rattle.rules.specs.Records.{half_size, half_limit}
use Rattle.rules.specs.Frames.{line_in, line_of}
use Rattle.rules.specs.Printed.{output_in, output}
use Rattle.rules.specs.Converted.{frame_id, Turned, lengthened, shortened, converted}

-- a line that is turned into another
abbrev pub becomes : List ℕ → Turned
becomes l = record { number = 0; line = l }

pub record Conversions : Type 0 where
  -- 1, when and when not: no frame of the kind that is turned
  pub lengthen_refuses : (l : List ℕ) → ((lengthened l).number ≡ 1) ↔ (line_in half_size l ≡ Bad)
  pub shorten_refuses : (l : List ℕ) → ((shortened l).number ≡ 1) ↔ (line_of l ≡ Bad)
  -- 15, when and when not: the upper 64 bits of its id are not all zero
  pub shorten_too_wide : (l : List ℕ) → ((shortened l).number ≡ 15) ↔ ((f : Frame) × (i : ℕ) × (line_of l ≡ Good f) × (frame_id f ≡ some i) × (half_limit ≤ i))
  -- a line without an id passes unchanged, both ways
  pub lengthen_passes : (l : List ℕ) (f : Frame) → line_in half_size l ≡ Good f → frame_id f ≡ none → lengthened l ≡ becomes l
  pub shorten_passes : (l : List ℕ) (f : Frame) → line_of l ≡ Good f → frame_id f ≡ none → shortened l ≡ becomes l
  -- one with an id that is already of the kind asked for gets 1
  pub long_already : (l : List ℕ) (f : Frame) (i : ℕ) → line_of l ≡ Good f → frame_id f ≡ some i → (lengthened l).number ≡ 1
  pub short_already : (l : List ℕ) (f : Frame) (i : ℕ) → line_in half_size l ≡ Good f → frame_id f ≡ some i → (shortened l).number ≡ 1
  -- every turned line, turned back, is itself again
  pub and_back : (l : List ℕ) → (lengthened l).number ≡ 0 → shortened (lengthened l).line ≡ becomes l
  pub and_forth : (l : List ℕ) → (shortened l).number ≡ 0 → lengthened (shortened l).line ≡ becomes l
  -- a turned line is the frame that the line was over ids of the other width
  pub lengthened_frame : (l : List ℕ) → (lengthened l).number ≡ 0 → line_of (lengthened l).line ≡ line_in half_size l
  pub shortened_frame : (l : List ℕ) → (shortened l).number ≡ 0 → line_in half_size (shortened l).line ≡ line_of l
  -- a converted text schedules as the original does over ids of 64 bits, refused lines too
  pub schedules : (text : List ℕ) → output (converted lengthened text) ≡ output_in half_size text
