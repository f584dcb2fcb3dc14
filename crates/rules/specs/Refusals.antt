-- Numbers given, in checking order.
use Rattle.std.specs.Prelude.{ℕ, ◌+◌, ◌*◌, Bool, true, false, cond, not, ◌&&◌, ◌||◌, List, [], ◌∷◌, leb, ltb, eqb, length}
use Rattle.std.proofs.Math.Option.{Option, none, some}
use Rattle.rules.specs.declared.Event.{Event}
use Rattle.rules.specs.declared.Entry.{Entry}
use Rattle.rules.specs.Records.{State, id_of, usable, most_events, last_clock, last_program, last_control, program_at}
use Rattle.rules.specs.Period.{effective_end}
use Rattle.rules.specs.Bytes.{row_size}
use Rattle.rules.specs.Sound.{same_event, malformed}

-- a number, and whether it applies
pub record Check : Type 0 where
  pub number : ℕ
  pub applies : Bool

infix 70 ◌if◌
abbrev pub ◌if◌ : ℕ → Bool → Check
n if b = record { number = n; applies = b }

-- Numbers given, checking order: the first number that applies, 0 for none
abbrev pub first_of : List Check → ℕ
first_of [] = 0
first_of (c ∷ cs) = cond c.applies c.number (first_of cs)

-- the event that is held under an id
unfoldable pub find : ℕ → List Entry → Option Entry
find i [] = none
find i (h ∷ hs) = cond (eqb (id_of h.event) i) (some h) (find i hs)

abbrev pub is_none : {A : Type 0} → Option A → Bool
is_none none = true
is_none (some a) = false

-- Numbers given, 8
abbrev pub differs : Option Entry → Event → Bool
differs none e = false
differs (some h) e = not (same_event h.event e)

-- Numbers given, 9: the raw end has come, or the effective end comes at the next second at the latest
unfoldable pub late : ℕ → Event → Bool
late clock e = leb (e.start + e.duration) clock || leb (effective_end e) (clock + 1)

-- Numbers given, of adding a program: 3, 4, 5
unfoldable pub program_checks : State → ℕ → ℕ → List Check
program_checks s n primacy =
    3 if ltb last_program n
    ∷ 4 if (program_at s.programs n).added
    ∷ 5 if not (usable primacy)
    ∷ []

-- Numbers given, of a delivery: 3, 6 to 10; `old` is what is held under its id
unfoldable pub event_checks : State → Event → Option Entry → List Check
event_checks s e old =
    3 if ltb last_program e.program
    ∷ 6 if not (program_at s.programs e.program).added
    ∷ 7 if malformed e
    ∷ 8 if differs old e
    ∷ 9 if (is_none old && late s.clock e)
    ∷ 10 if (is_none old && leb most_events (length s.entries))
    ∷ []

-- Numbers given, of a cancellation, and document 02, #102, of an opt-out and an opt-in: 11
unfoldable pub held_checks : Option Entry → List Check
held_checks old = 11 if is_none old ∷ []

-- Numbers given, of setting the clock: 12, 13; `rows` is how many are to be written into `room` bytes
unfoldable pub clock_checks : ℕ → ℕ → ℕ → ℕ → List Check
clock_checks clock reading rows room =
    12 if (ltb reading clock || ltb last_clock reading)
    ∷ 13 if ltb room (row_size * rows)
    ∷ []

-- Numbers given, of a question: 14
unfoldable pub ask_checks : ℕ → List Check
ask_checks control = 14 if ltb last_control control ∷ []

-- Numbers given, of a listing: 13; `held` records are to be written into `room` places
unfoldable pub list_checks : ℕ → ℕ → List Check
list_checks held room = 13 if ltb room held ∷ []
