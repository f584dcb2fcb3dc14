-- Frames and image, frames: a line of upper-case hexadecimal pairs, and the call that it stands for.
use Rattle.std.specs.Prelude.{ℕ, ◌+◌, ◌-◌, ◌*◌, Bool, true, false, cond, ◌&&◌, List, [], ◌∷◌, leb, ltb, eqb, length, get_or}
use Rattle.rules.specs.declared.Frame.{Frame}
use Rattle.rules.specs.declared.Frame.TheVariants as frame
use Rattle.rules.specs.declared.Line.{Line}
use Rattle.rules.specs.declared.Line.TheVariants.{Good, Bad}
use Rattle.rules.specs.Records.{id_size, id_number}
use Rattle.rules.specs.Bytes.{read, id_in, event_size_in, event_in}
use Rattle.rules.specs.Calls.{Call, add_program, deliver, cancel, opt_out, opt_in, set_clock, ask}

-- what a hexadecimal digit stands for, 0 to 9 and upper-case A to F; 16 for any other byte
unfoldable pub digit : ℕ → ℕ
digit c = cond (leb 48 c && leb c 57) (c - 48) (cond (leb 65 c && leb c 70) (c - 55) 16)

-- whether a line is pairs of digits
unfoldable pub paired : List ℕ → Bool
paired [] = true
paired (x ∷ []) = false
paired (x ∷ y ∷ rest) = ltb (digit x) 16 && (ltb (digit y) 16 && paired rest)

-- the bytes that the pairs stand for
unfoldable pub unhex : List ℕ → List ℕ
unhex [] = []
unhex (x ∷ []) = []
unhex (x ∷ y ∷ rest) = (16 * digit x + digit y) ∷ unhex rest

-- a frame is of a kind and of its length
unfoldable pub is_frame : ℕ → ℕ → List ℕ → Bool
is_frame kind size b = eqb (length b) size && eqb (get_or b 0 0) kind

-- Frames and image, the lengths of the frames: the kind, and then the fields. Document 02, #105: an id has w bytes in them; in the calls' own it is an mRID
abbrev pub event_frame_in : (w : ℕ) → ℕ
event_frame_in w = 1 + event_size_in w

abbrev pub event_frame : ℕ
event_frame = event_frame_in id_size

-- those of a cancellation, and document 02, #102: of an opt-out and an opt-in
abbrev pub id_frame_in : (w : ℕ) → ℕ
id_frame_in w = 1 + w

abbrev pub id_frame : ℕ
id_frame = id_frame_in id_size

abbrev pub clock_frame : ℕ
clock_frame = 9

abbrev pub program_frame : ℕ
program_frame = 7

abbrev pub ask_frame : ℕ
ask_frame = 2

-- Frames and image, the kinds with their lengths and fields: document 01's five, and document 02, #102: 06 and 07
unfoldable pub frame_in : (w : ℕ) → List ℕ → Line
frame_in w b =
    cond (is_frame 1 (event_frame_in w) b) (Good (frame.Event (event_in w 1 b)))
    (cond (is_frame 2 (id_frame_in w) b) (Good (frame.Cancel (id_in w 1 b)))
    (cond (is_frame 3 clock_frame b) (Good (frame.Clock (read 8 1 b)))
    (cond (is_frame 4 program_frame b) (Good (frame.Program (read 1 1 b) (read 1 2 b) (read 4 3 b)))
    (cond (is_frame 5 ask_frame b) (Good (frame.Ask (read 1 1 b)))
    (cond (is_frame 6 (id_frame_in w) b) (Good (frame.OptOut (id_in w 1 b)))
    (cond (is_frame 7 (id_frame_in w) b) (Good (frame.OptIn (id_in w 1 b)))
    Bad))))))

abbrev pub frame_of : List ℕ → Line
frame_of b = frame_in id_size b

-- Numbers given, 1: a line that is no frame is `Bad`
unfoldable pub line_in : (w : ℕ) → List ℕ → Line
line_in w l = cond (paired l) (frame_in w (unhex l)) Bad

abbrev pub line_of : List ℕ → Line
line_of l = line_in id_size l

-- the call that a frame stands for; a clock reading is given a buffer
abbrev pub frame_call : Frame → List ℕ → Call
frame_call (frame.Event e) room = deliver e
frame_call (frame.Cancel i) room = cancel (id_number i)
frame_call (frame.Clock t) room = set_clock t room
frame_call (frame.Program n p d) room = add_program n p d
frame_call (frame.Ask c) room = ask c
frame_call (frame.OptOut i) room = opt_out (id_number i)
frame_call (frame.OptIn i) room = opt_in (id_number i)
