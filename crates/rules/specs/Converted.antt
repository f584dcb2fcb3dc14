-- Document 02, #105, recorded lines: frames with ids of 64 bits turned into frames with ids of 128 bits, and back.
use Rattle.std.specs.Prelude.{ℕ, ◌+◌, ◌*◌, Bool, true, false, cond, not, List, [], ◌∷◌, ◌++◌, leb, ltb, eqb, length, take, drop, replicate}
use Rattle.std.proofs.Math.Option.{Option, none, some}
use Rattle.rules.specs.declared.Frame.{Frame}
use Rattle.rules.specs.declared.Frame.TheVariants as frame
use Rattle.rules.specs.declared.Line.{Line}
use Rattle.rules.specs.declared.Line.TheVariants.{Good, Bad}
use Rattle.rules.specs.Lists.{over}
use Rattle.rules.specs.Records.{half_size, id_size, half_limit, id_number, id_of}
use Rattle.rules.specs.Bytes.{flat}
use Rattle.rules.specs.Refusals.{◌if◌, first_of, is_none}
use Rattle.rules.specs.Calls.{Value, nothing, count}
use Rattle.rules.specs.Face.{shown, negative}
use Rattle.rules.specs.Frames.{line_in}
use Rattle.rules.specs.Printed.{lines_of, line_feed, refused_text}

-- Numbers given, 1: whether a line is no frame
abbrev pub no_frame : Line → Bool
no_frame (Good f) = false
no_frame Bad = true

-- Document 02, #105, the frames with an id: an event, a cancellation, an opt-out and an opt-in
abbrev pub frame_id : Frame → Option ℕ
frame_id (frame.Event e) = some (id_of e)
frame_id (frame.Cancel i) = some (id_number i)
frame_id (frame.Clock t) = none
frame_id (frame.Program n p d) = none
frame_id (frame.Ask c) = none
frame_id (frame.OptOut i) = some (id_number i)
frame_id (frame.OptIn i) = some (id_number i)

abbrev pub line_id : Line → Option ℕ
line_id (Good f) = frame_id f
line_id Bad = none

-- Document 02, #105, 15: the upper 64 bits of an id are not all zero
abbrev pub too_wide : Option ℕ → Bool
too_wide none = false
too_wide (some i) = leb half_limit i

-- the two digits of a line's kind, and those of half an id
abbrev pub kind_digits : ℕ
kind_digits = 2

abbrev pub half_digits : ℕ
half_digits = 2 * half_size

-- Document 02, #105, the upper 64 bits zero: the digit 0 for each of theirs, between the kind and the id
unfoldable pub widened : List ℕ → List ℕ
widened l = take kind_digits l ++ (replicate half_digits 48 ++ drop kind_digits l)

-- the way back: behind the kind the digits of the upper 64 bits are left out
unfoldable pub narrowed : List ℕ → List ℕ
narrowed l = take kind_digits l ++ drop (kind_digits + half_digits) l

-- what becomes of a line: the number that refuses it, 0 for none, and the line that it is turned into
pub record Turned : Type 0 where
  pub number : ℕ
  pub line : List ℕ

-- A LINE LENGTHENED: one without an id passes unchanged; a long line with an id is no frame with ids of 64 bits
unfoldable pub lengthened : List ℕ → Turned
lengthened l =
    let f = line_in half_size l in
    record { number = first_of (1 if no_frame f ∷ []); line = cond (is_none (line_id f)) l (widened l) }

-- A LINE SHORTENED: 15 after 1
unfoldable pub shortened : List ℕ → Turned
shortened l =
    let f = line_in id_size l in
    record { number = first_of (1 if no_frame f ∷ 15 if too_wide (line_id f) ∷ []); line = cond (is_none (line_id f)) l (narrowed l) }

-- what a call for one line gives: number, how many bytes it wrote, the lent buffer
pub record LineOutcome : Type 0 where
  pub number : ℕ
  pub value : Value
  pub bytes : List ℕ

-- Numbers given, 13: the turned line does not fit
abbrev pub turn_number : Turned → (room : ℕ) → ℕ
turn_number t room = first_of (t.number if not (eqb t.number 0) ∷ 13 if ltb room (length t.line) ∷ [])

-- A LINE TURNED INTO A LENT BUFFER: over its front; a refused call leaves every byte
unfoldable pub turned_into : Turned → List ℕ → LineOutcome
turned_into t out =
    let n = turn_number t (length out) in
    cond (eqb n 0) (record { number = 0; value = count (length t.line); bytes = over t.line out })
    (record { number = n; value = nothing; bytes = out })

-- C hosts: its number or its count as one number
abbrev pub returned_line : LineOutcome → ℕ
returned_line o = cond (eqb o.number 0) (shown o.value) (negative o.number)

-- THE C FACE, for one line: what is returned, and what the lent buffer holds then
abbrev pub face_line : LineOutcome → ℕ × List ℕ
face_line o = (returned_line o, o.bytes)

-- what the programs write for a line: the turned line, or refused n, and a line feed
abbrev pub turned_text : Turned → List ℕ
turned_text t = cond (eqb t.number 0) (t.line ++ line_feed) (refused_text t.number)

-- THE PROGRAMS `lengthen` AND `shorten`: from what they read to what they write; `turn` is `lengthened` or `shortened`
abbrev pub converted : (turn : List ℕ → Turned) → List ℕ → List ℕ
converted turn input = flat (λ l. turned_text (turn l)) (lines_of input)
