-- Demand 3 is not empty: two lists of calls that differ in order, spacing of the clock, receipt clocks, repeats and refused calls, and meet its premise.
-- Nor could it ask for less: for each part of the premise two lists that miss it alone, and give other rows.
use Rattle.std.specs.Prelude.{◌≡◌, ℕ, Bool, true, false, cond, ◌&&◌, List, [], ◌∷◌, ◌++◌, length, replicate}
use Rattle.std.proofs.Math.Option.{none, some}
use Rattle.rules.specs.declared.Event.{Event}
use Rattle.rules.specs.Rows.{Row}
use Rattle.rules.specs.Bytes.{bytes}
use Rattle.rules.specs.Calls.{Call, add_program, deliver, cancel, opt_out, opt_in, set_clock, ask, list}
use Rattle.rules.specs.History.{History, history_of}
use Rattle.rules.specs.LineTable.{event_numbers}
use Rattle.rules.specs.Marks.{drawn_back, same}
use Rattle.rules.specs.Arrival.{events_of, Cancellation, cancellations_of, Choices, choices_of, SameArrivals, SameResults, joined_rows}

-- 10 to 30 on control 0, cancelled at 12
abbrev pub one : Event
one = drawn_back 1 0 1 100 10 20

-- 15 to 20 on controls 0 and 1: the better; out from 18 on
abbrev pub two : Event
two = drawn_back 2 0 3 200 15 5

-- the id of `one` again, after its end: 40 to 45; out throughout
abbrev pub three : Event
three = drawn_back 1 0 1 100 40 5

-- document 02, #104: an id that agrees with that of `one` in its lower half, and one that agrees with it in its upper half and with that of `two` in its lower half
abbrev pub fourth : ℕ
fourth = 0x00000000000000010000000000000001

abbrev pub fifth : ℕ
fifth = 0x00000000000000010000000000000002

-- 16 to 30 on controls 1 and 2: it begins under `two`, and holds what is left; out for 18 alone
abbrev pub four : Event
four = drawn_back fourth 0 6 150 16 14

-- 12 to 22 on control 1, of the lesser program, created last: it holds until `two` begins
abbrev pub five : Event
five = drawn_back fifth 1 2 300 12 10

abbrev room : List ℕ
room = replicate 200 7

unfoldable pub plainly : List Call
plainly =
    add_program 0 1 1 ∷ add_program 1 2 0 ∷ deliver one ∷ deliver two ∷ deliver four ∷ deliver five ∷ set_clock 12 room ∷ cancel 1
    ∷ set_clock 11 room ∷ set_clock 17 room ∷ opt_out 2 ∷ opt_out fourth ∷ set_clock 18 room ∷ opt_in fourth ∷ set_clock 33 room ∷ deliver three
    ∷ set_clock 39 room ∷ opt_out 1 ∷ set_clock 42 room ∷ []

-- programs and events in another order, each event at the last clock that is in time; an id that is not held; repeats of a program, of events, of a
-- cancellation and of choices; choices at one clock in the other order; short buffers and lists
unfoldable pub otherwise : List Call
otherwise =
    cancel 9 ∷ add_program 1 2 0 ∷ set_clock 5 [] ∷ add_program 0 1 1 ∷ set_clock 9 room ∷ ask 0 ∷ deliver one ∷ add_program 0 1 1 ∷ set_clock 11 []
    ∷ set_clock 11 room ∷ deliver five ∷ deliver one ∷ set_clock 12 room ∷ cancel 1 ∷ set_clock 14 room ∷ cancel 1 ∷ deliver two ∷ set_clock 15 room
    ∷ deliver four ∷ deliver one ∷ opt_out 9 ∷ opt_in fourth ∷ set_clock 17 room ∷ opt_out fourth ∷ opt_out 2 ∷ opt_out 2 ∷ set_clock 18 room ∷ opt_in fourth ∷ opt_out 2
    ∷ set_clock 39 room ∷ deliver three ∷ opt_out 1 ∷ list [] ∷ set_clock 42 room ∷ []

abbrev row : ℕ → ℕ → ℕ → Row
row t i k = record { time = t; id = i; code = k }

-- two lists that do not meet the premise, and do not give the same rows
pub record Missed (a b : List Call) : Type 0 where
  pub premise : SameArrivals (history_of a) (history_of b) → ⊥
  pub rows : joined_rows a ≡ joined_rows b → ⊥

-- program 0, and calls up to 14
abbrev with : List Call → List Call
with cs = add_program 0 1 1 ∷ (cs ++ (set_clock 14 room ∷ []))

-- `one` a second before its drawn start
abbrev pub prompt : List Call
prompt = with (set_clock 9 room ∷ deliver one ∷ [])

-- and at it
abbrev pub tardy : List Call
tardy = with (set_clock 10 room ∷ deliver one ∷ [])

-- cancelled before its start, a second later, never
abbrev pub cancelled_by : ℕ → List Call
cancelled_by t = with (deliver one ∷ set_clock t room ∷ cancel 1 ∷ [])

abbrev pub uncancelled : List Call
uncancelled = with (deliver one ∷ [])

-- 10 to 13 on control 0
abbrev pub brief : Event
brief = drawn_back 1 0 1 100 10 3

-- the user out from its start, a second later, never
abbrev pub out_by : ℕ → List Call
out_by t = with (deliver brief ∷ set_clock t room ∷ opt_out 1 ∷ [])

abbrev pub unchosen : List Call
unchosen = with (deliver brief ∷ [])

-- one event more
abbrev pub another : List Call
another = with (deliver one ∷ deliver (drawn_back 6 0 2 100 10 20) ∷ [])

-- the same event with another draw
abbrev pub redrawn : List Call
redrawn = with (deliver (drawn_back 1 0 1 100 11 20) ∷ [])

-- a second longer
abbrev pub longer : List Call
longer = with (deliver one ∷ []) ++ (deliver two ∷ set_clock 15 room ∷ [])

abbrev pub shorter : List Call
shorter = with (deliver one ∷ []) ++ (deliver two ∷ set_clock 14 room ∷ [])

-- `one` and `five`'s like on control 0, of programs with these primacies
abbrev pub ranked : ℕ → ℕ → List Call
ranked p q = add_program 0 p 1 ∷ add_program 1 q 1 ∷ deliver one ∷ deliver (drawn_back 5 1 1 100 10 20) ∷ set_clock 14 room ∷ []

-- What the premise compares: an id that is used again, cancelled the first time, and chosen on the second; and choices on another event, the last one first.
abbrev reused : History
reused =
    record {
      programs = [];
      brought =
          record { event = one; receipt = 0; cancelled = some 12; choices = [] }
          ∷ record { event = three; receipt = 33; cancelled = none; choices = record { clock = 39; out = true } ∷ [] }
          ∷ record { event = two; receipt = 0; cancelled = none; choices = record { clock = 18; out = false } ∷ record { clock = 17; out = true } ∷ [] }
          ∷ [];
      last = 42;
    }

-- things as numbers, one after the other
abbrev all : {A : Type 0} → (A → List ℕ) → List A → List ℕ
all numbers [] = []
all numbers (x ∷ xs) = numbers x ++ all numbers xs

abbrev cancellation_numbers : Cancellation → List ℕ
cancellation_numbers c = event_numbers c.event ++ (c.clock ∷ [])

abbrev choices_numbers : Choices → List ℕ
choices_numbers c = event_numbers c.event ++ (length c.made ∷ all (λ m. m.clock ∷ cond m.out 1 0 ∷ []) c.made)

-- events, cancellations and choices by record, with all fields, and not by id; each with its clock
unfoldable pub compared_hold : Bool
compared_hold =
    same (all event_numbers (events_of reused)) (event_numbers one ++ (event_numbers three ++ event_numbers two))
    && same (all cancellation_numbers (cancellations_of reused)) (event_numbers one ++ (12 ∷ []))
    && same (all choices_numbers (choices_of reused)) (event_numbers one ++ (0 ∷ (event_numbers three ++ (1 ∷ 39 ∷ 1 ∷ (event_numbers two ++ (2 ∷ 18 ∷ 0 ∷ 17 ∷ 1 ∷ []))))))

pub record Sample : Type 0 where
  -- what the premise compares of a history
  pub compared : compared_hold ≡ true
  -- they meet the premise
  pub premise : SameArrivals (history_of plainly) (history_of otherwise)
  -- they differ
  pub lengths : (length plainly ≡ 19) × (length otherwise ≡ 34)
  -- and these are the joined rows of both
  pub rows : joined_rows plainly ≡ bytes (row 10 1 2 ∷ row 12 fifth 2 ∷ row 15 fifth 7 ∷ row 15 2 2 ∷ row 16 fourth 2 ∷ row 20 2 8 ∷ row 30 fourth 9 ∷ row 40 1 2 ∷ [])
  pub results : SameResults plainly otherwise
  -- each part of the premise is needed: receipt before the drawn start, cancellations and their clocks, choices and theirs, events with every field, programs,
  -- the last reading
  pub in_time : Missed prompt tardy
  pub cancellation_clocks : Missed (cancelled_by 9) (cancelled_by 10)
  pub cancellations : Missed (cancelled_by 9) uncancelled
  pub choice_clocks : Missed (out_by 9) (out_by 10)
  pub choices : Missed (out_by 9) unchosen
  pub events : Missed uncancelled another
  pub fields : Missed uncancelled redrawn
  pub programs : Missed (ranked 1 2) (ranked 2 1)
  pub last : Missed shorter longer
