-- A text of recorded lines, converted, schedules as it did over ids of 64 bits.
use mathlib.Core.Path.{◌≡◌, refl, sym, ◌∙◌}
use Prim.Native.Nat.{ℕ, suc}
use mathlib.Core.List.{List, [], ◌∷◌, ◌++◌}
use native.Mathlib.Omega.{arith}
use lib.ListN.{length, drop, length-append, drop_of_length-le}
use lib.Seq.{take-append_seam}
use Rattle.rules.specs.declared.Schedule.{Schedule}
use Rattle.rules.specs.declared.Line.{Line}
use Rattle.rules.specs.declared.Line.TheVariants.{Good, Bad}
use Rattle.rules.specs.Ascii.{ascii}
use Rattle.rules.specs.Records.{half_size, id_size, fresh, pad}
use Rattle.rules.specs.Bytes.{flat}
use Rattle.rules.specs.Frames.{digit, paired, line_in, line_of}
use Rattle.rules.specs.Printed.{lines_of, decimal, line_feed, tell_in, tell_all, tell_all_in, output, output_in}
use Rattle.rules.specs.Converted.{lengthened, turned_text, converted}
use Rattle.frame.specs.Ends.{up_to}
use Rattle.frame.proofs.Ends.{lines_first, up_to_pairs, frame_paired}
use Rattle.convert.proofs.Laws.{lengthened_frame}

-- what is written for a line is one line: the frame that it was over ids of 64 bits, and `refused 1`, which is no frame, if it was none
record WrittenAs (l m : List ℕ) : Type 0 where
  text : turned_text (lengthened l) ≡ m ++ line_feed
  ends : up_to (m ++ line_feed) ≡ length m
  same : line_of m ≡ line_in half_size l

written_as : (l : List ℕ) → (m : List ℕ) × WrittenAs l m
unfolding lengthened decimal up_to line_in paired digit
written_as l = by (line_in half_size l) refl
  where
    by : (x : Line) → line_in half_size l ≡ x → (m : List ℕ) × WrittenAs l m
    by (Good f) g =
        let m = (lengthened l).line in
        let same = lengthened_frame l (rw g) in
        (m, record { text = rw g; ends = up_to_pairs m [] (frame_paired id_size m f (same ∙ g)); same = same })
    by Bad b = (ascii "refused 1", record { text = rw b; ends = refl; same = sym b })

-- such a line and what is behind it
lines_more : (m more : List ℕ) → up_to (m ++ line_feed) ≡ length m → lines_of ((m ++ line_feed) ++ more) ≡ m ∷ lines_of more
lines_more m more e =
    let size = length-append m line_feed in
    let none : drop (suc (length m)) (m ++ line_feed) ≡ [] = drop_of_length-le (m ++ line_feed) {i = suc (length m)} (omega arith) in
    lines_first (m ++ line_feed) more (omega arith) ∙ rw (e, take-append_seam m line_feed, none)

-- line after line
tell_lines : (ls : List (List ℕ)) (s : Schedule) → tell_all s (lines_of (flat (λ l. turned_text (lengthened l)) ls)) ≡ tell_all_in half_size s ls
unfolding flat lines_of tell_all_in tell_in
tell_lines [] s = refl
tell_lines (l ∷ ls) s =
    let m = (written_as l).0 in
    let b = (written_as l).1 in
    rw (b.text, lines_more m _ b.ends, b.same, tell_lines ls)

pub schedules : (text : List ℕ) → output (converted lengthened text) ≡ output_in half_size text
schedules text = tell_lines (lines_of text) (pad fresh)
