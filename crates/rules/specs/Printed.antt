-- Frames and image, the program `schedule`: what it writes for what it reads.
use Rattle.std.specs.Prelude.{ℕ, zero, suc, ◌+◌, ◌/◌, ◌%◌, cond, List, [], ◌∷◌, ◌++◌, ltb, eqb, replicate}
use Rattle.rules.specs.declared.Frame.{Frame}
use Rattle.rules.specs.declared.Frame.TheVariants as frame
use Rattle.rules.specs.declared.Line.{Line}
use Rattle.rules.specs.declared.Line.TheVariants.{Good, Bad}
use Rattle.rules.specs.declared.Schedule.{Schedule}
use Rattle.rules.specs.Ascii.{ascii}
use Rattle.rules.specs.Records.{id_size, id_number, id_of, fresh, pad}
use Rattle.rules.specs.Bytes.{read, row_size, rows_size}
use Rattle.rules.specs.Calls.{Governor, by_event, by_program, by_none, Value, nothing, code, count, governor, Outcome, call, counted}
use Rattle.rules.specs.Frames.{line_in, frame_call}

-- the lines of a text: a line feed ends one, and the last may lack it
unfoldable pub lines_of : List ℕ → List (List ℕ)
lines_of [] = []
lines_of (b ∷ bs) = cond (eqb b 10) ([] ∷ lines_of bs) (first (lines_of bs))
  where
    first : List (List ℕ) → List (List ℕ)
    first [] = (b ∷ []) ∷ []
    first (l ∷ ls) = (b ∷ l) ∷ ls

-- the last n decimal digits of a number, no zero in front
unfoldable pub decimal : ℕ → ℕ → List ℕ
decimal zero x = []
decimal (suc n) x = cond (ltb x 10) ((48 + x) ∷ []) (decimal n (x / 10) ++ ((48 + x % 10) ∷ []))

-- how many digits a printed number has at the most: all but ids are below 2 ^ 64; document 02, #104: an id is below 2 ^ 128
abbrev pub most_digits : ℕ
most_digits = 20

abbrev pub most_id_digits : ℕ
most_id_digits = 39

abbrev pub digits : ℕ → List ℕ
digits x = decimal most_digits x

abbrev pub id_digits : ℕ → List ℕ
id_digits i = decimal most_id_digits i

abbrev pub space : List ℕ
space = 32 ∷ []

abbrev pub line_feed : List ℕ
line_feed = 10 ∷ []

-- refused n
abbrev pub refused_text : ℕ → List ℕ
refused_text n = ascii "refused " ++ (digits n ++ line_feed)

-- three numbers: a clock or a time, an id, a code
abbrev pub three_text : ℕ → ℕ → ℕ → List ℕ
three_text t i k = digits t ++ (space ++ (id_digits i ++ (space ++ (digits k ++ line_feed))))

-- a call that names an id and gives a code; nothing for code 0
abbrev pub code_text : ℕ → ℕ → Value → List ℕ
code_text clock i nothing = []
code_text clock i (code k) = cond (eqb k 0) [] (three_text clock i k)
code_text clock i (count n) = []
code_text clock i (governor g) = []

-- the row that stands in a buffer from `at` on: time, id, code
abbrev pub row_text : ℕ → List ℕ → List ℕ
row_text at b = three_text (read 8 at b) (read id_size (at + 8) b) (read 1 (at + (8 + id_size)) b)

-- the rows in a buffer
unfoldable pub rows_text : ℕ → ℕ → List ℕ → List ℕ
rows_text zero at b = []
rows_text (suc n) at b = row_text at b ++ rows_text n (at + row_size) b

-- a question: control event id, control default program, or control none
abbrev pub governor_text : ℕ → Governor → List ℕ
governor_text c (by_event i) = digits c ++ (ascii " event " ++ (id_digits i ++ line_feed))
governor_text c (by_program p) = digits c ++ (ascii " default " ++ (digits p ++ line_feed))
governor_text c by_none = digits c ++ (ascii " none" ++ line_feed)

abbrev pub ask_text : ℕ → Value → List ℕ
ask_text c nothing = []
ask_text c (code k) = []
ask_text c (count n) = []
ask_text c (governor g) = governor_text c g

-- an accepted frame
abbrev pub frame_text : ℕ → Frame → Outcome → List ℕ
frame_text clock (frame.Event e) o = code_text clock (id_of e) o.value
frame_text clock (frame.Cancel i) o = code_text clock (id_number i) o.value
frame_text clock (frame.Clock t) o = rows_text (counted o.value) 0 o.bytes
frame_text clock (frame.Program n p d) o = []
frame_text clock (frame.Ask c) o = ask_text c o.value
frame_text clock (frame.OptOut i) o = code_text clock (id_number i) o.value
frame_text clock (frame.OptIn i) o = code_text clock (id_number i) o.value

-- a buffer that the rows of every clock call fit
abbrev pub room : List ℕ
room = replicate rows_size 0

-- what a line leaves and writes
pub record Told : Type 0 where
  pub state : Schedule
  pub text : List ℕ

-- a frame, accepted or refused
abbrev pub outcome_text : ℕ → Frame → Outcome → List ℕ
outcome_text clock f o = cond (eqb o.number 0) (frame_text clock f o) (refused_text o.number)

unfoldable pub tell_frame : Schedule → Frame → Told
tell_frame s f =
    let o = call s (frame_call f room) in
    record { state = o.state; text = outcome_text s.clock f o }

-- a line that is no frame
abbrev pub bad_text : List ℕ
bad_text = refused_text 1

abbrev pub tell_line : Schedule → Line → Told
tell_line s (Good f) = tell_frame s f
tell_line s Bad = record { state = s; text = bad_text }

-- one line; document 02, #105: with ids of w bytes, and with mRIDs
unfoldable pub tell_in : (w : ℕ) → Schedule → List ℕ → Told
tell_in w s l = tell_line s (line_in w l)

abbrev pub tell : Schedule → List ℕ → Told
tell s l = tell_in id_size s l

-- lines one after the other
unfoldable pub tell_all_in : (w : ℕ) → Schedule → List (List ℕ) → List ℕ
tell_all_in w s [] = []
tell_all_in w s (l ∷ ls) = let o = tell_in w s l in o.text ++ tell_all_in w o.state ls

abbrev pub tell_all : Schedule → List (List ℕ) → List ℕ
tell_all s ls = tell_all_in id_size s ls

-- Frames and image, the program: from what it reads to what it writes; and what it would write if ids had w bytes
abbrev pub output_in : (w : ℕ) → List ℕ → List ℕ
output_in w input = tell_all_in w (pad fresh) (lines_of input)

abbrev pub output : List ℕ → List ℕ
output input = output_in id_size input
