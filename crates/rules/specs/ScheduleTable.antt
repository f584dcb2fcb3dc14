-- Call lists: what a list brings, and the schedule of that: what the rules give for it, worked out second by second over all events, none dropped.
use Rattle.std.specs.Prelude.{◌≡◌, ℕ, Bool, true, false, cond, ◌&&◌, List, [], ◌∷◌, ◌++◌, length, replicate}
use Rattle.std.proofs.Math.Option.{Option, none, some}
use Rattle.rules.specs.declared.Choice.{Choice}
use Rattle.rules.specs.declared.Event.{Event}
use Rattle.rules.specs.declared.Entry.{Entry}
use Rattle.rules.specs.Rows.{Row}
use Rattle.rules.specs.Calls.{Call, add_program, deliver, cancel, opt_out, opt_in, set_clock, ask, list}
use Rattle.rules.specs.History.{Added, Chosen, Brought, History}
use Rattle.rules.specs.Schedules.{programs_of, state_of, rows_of}
use Rattle.rules.specs.LineTable.{event_numbers}
use Rattle.rules.specs.Script.{program_numbers, entries_numbers}
use Rattle.rules.specs.Marks.{drawn_back, choice, unheld, stayed_in, same}

-- what was brought; then the rows up to the last reading, and the events held after it
pub record ScheduleCase : Type 0 where
  pub brought : List Brought
  pub last : ℕ
  pub rows : List Row
  pub held : List Entry

-- program 0 has primacy 1, program 7 primacy 0
abbrev both : List Added
both = record { number = 7; primacy = 0; defaults = 5 } ∷ record { number = 0; primacy = 1; defaults = 6 } ∷ []

abbrev history_for : ScheduleCase → History
history_for c = record { programs = both; brought = c.brought; last = c.last }

-- each in its place, the others not added
unfoldable pub programs_hold : Bool
programs_hold = same (program_numbers (programs_of both)) (1 ∷ 1 ∷ 6 ∷ (replicate 18 0 ++ (1 ∷ 0 ∷ 5 ∷ [])))

-- time, id, code of each row
abbrev pub row_numbers : List Row → List ℕ
row_numbers [] = []
row_numbers (r ∷ rs) = r.time ∷ r.id ∷ r.code ∷ row_numbers rs

unfoldable pub schedules_hold : List ScheduleCase → Bool
schedules_hold [] = true
schedules_hold (c ∷ cs) =
    same (row_numbers (rows_of (history_for c))) (row_numbers c.rows)
    && same (entries_numbers (state_of (history_for c)).entries) (entries_numbers c.held)
    && schedules_hold cs

-- id, program, controls, drawn start, duration
abbrev pub event : ℕ → ℕ → ℕ → ℕ → ℕ → Event
event i program controls start duration = drawn_back i program controls 0 start duration

-- received at a clock, neither cancelled nor chosen on
abbrev at : ℕ → Event → Brought
at receipt e = record { event = e; receipt = receipt; cancelled = none; choices = [] }

-- received at clock 0, and cancelled at a clock
abbrev until : ℕ → Event → Brought
until k e = record { event = e; receipt = 0; cancelled = some k; choices = [] }

-- a choice at a clock: out or in
abbrev out : ℕ → Chosen
out k = record { clock = k; out = true }

abbrev back : ℕ → Chosen
back k = record { clock = k; out = false }

-- received at clock 0, with choices, the last one first
abbrev chosen : List Chosen → Event → Brought
chosen cs e = record { event = e; receipt = 0; cancelled = none; choices = cs }

abbrev pub entry_as : Event → ℕ → ℕ → Bool → Choice → Entry
entry_as e begins mask gone c = record { event = e; begins = begins; held = mask; cancelled = gone; choice = c }

abbrev pub row : ℕ → ℕ → ℕ → Row
row t i k = record { time = t; id = i; code = k }

abbrev case : List Brought → ℕ → List Row → List Entry → ScheduleCase
case bs t rs hs = record { brought = bs; last = t; rows = rs; held = hs }

-- 2 to 6 on controls 0 and 1
abbrev wide : Event
wide = event 1 0 3 2 4

-- 3 to 4 on control 0, the better
abbrev narrow : Event
narrow = event 2 7 1 3 1

abbrev pair : List Brought
pair = at 0 wide ∷ at 1 narrow ∷ []

-- both on control 0: 2 to 6, the better; 3 to 6; 4 to 6
abbrev best : Event
best = event 3 7 1 2 4

abbrev next : Event
next = event 1 0 1 3 3

abbrev worst : Event
worst = event 2 0 1 4 2

abbrev three : List Brought
three = at 0 next ∷ at 0 worst ∷ until 3 best ∷ []

unfoldable pub schedule_table : List ScheduleCase
schedule_table =
    -- nothing yet; a start; a control lost to a better event and not got back; the end
    case pair 0 [] (entry_as wide 2 0 false unheld ∷ entry_as narrow 3 0 false unheld ∷ [])
    ∷ case pair 1 [] (entry_as wide 2 0 false unheld ∷ entry_as narrow 3 0 false unheld ∷ [])
    ∷ case pair 2 (row 2 1 2 ∷ []) (entry_as wide 2 3 false stayed_in ∷ entry_as narrow 3 0 false unheld ∷ [])
    ∷ case pair 3 (row 2 1 2 ∷ row 3 2 2 ∷ []) (entry_as wide 2 2 false stayed_in ∷ entry_as narrow 3 1 false stayed_in ∷ [])
    ∷ case pair 4 (row 2 1 2 ∷ row 3 2 2 ∷ row 4 2 3 ∷ []) (entry_as wide 2 2 false stayed_in ∷ [])
    ∷ case pair 5 (row 2 1 2 ∷ row 3 2 2 ∷ row 4 2 3 ∷ []) (entry_as wide 2 2 false stayed_in ∷ [])
    ∷ case pair 6 (row 2 1 2 ∷ row 3 2 2 ∷ row 4 2 3 ∷ row 6 1 3 ∷ []) []
    -- cancelled at 3: it holds at 3, so that `next` gets nothing; after the call it holds nothing, gives no 3, and `worst` starts at 4
    ∷ case three 3 (row 2 3 2 ∷ row 3 1 7 ∷ []) (entry_as next 3 0 false unheld ∷ entry_as worst 4 0 false unheld ∷ entry_as best 2 0 true stayed_in ∷ [])
    ∷ case three 4 (row 2 3 2 ∷ row 3 1 7 ∷ row 4 2 2 ∷ []) (entry_as next 3 0 false unheld ∷ entry_as worst 4 1 false stayed_in ∷ entry_as best 2 0 true stayed_in ∷ [])
    ∷ case three 6 (row 2 3 2 ∷ row 3 1 7 ∷ row 4 2 2 ∷ row 6 2 3 ∷ []) []
    -- cancelled at 2, its start: it holds that second alone. At 1: never
    ∷ case (at 0 next ∷ until 2 best ∷ []) 3 (row 2 3 2 ∷ row 3 1 2 ∷ []) (entry_as next 3 1 false stayed_in ∷ entry_as best 2 0 true stayed_in ∷ [])
    ∷ case (until 1 best ∷ []) 3 [] (entry_as best 2 0 true unheld ∷ [])
    -- a cancellation that is not yet
    ∷ case (until 3 best ∷ []) 2 (row 2 3 2 ∷ []) (entry_as best 2 1 false stayed_in ∷ [])
    -- first accepted at its start, and after it: the next second
    ∷ case (at 2 best ∷ []) 3 (row 3 3 2 ∷ []) (entry_as best 3 1 false stayed_in ∷ [])
    ∷ case (at 3 best ∷ []) 3 [] (entry_as best 4 0 false unheld ∷ [])
    -- an id used again after its event ended
    ∷ case (at 0 (event 1 0 1 1 1) ∷ at 2 (event 1 0 1 3 2) ∷ []) 4 (row 1 1 2 ∷ row 2 1 3 ∷ row 3 1 2 ∷ []) (entry_as (event 1 0 1 3 2) 3 1 false stayed_in ∷ [])
    -- #102: `best` from 2 to 6 with choices. Out from 3 on: 8; the listing shows what counted, and the mask stays
    ∷ case (chosen (out 2 ∷ []) best ∷ []) 2 (row 2 3 2 ∷ []) (entry_as best 2 1 false (choice 1 1 0) ∷ [])
    ∷ case (chosen (out 2 ∷ []) best ∷ []) 3 (row 2 3 2 ∷ []) (entry_as best 2 1 false (choice 1 1 1) ∷ [])
    ∷ case (chosen (out 2 ∷ []) best ∷ []) 6 (row 2 3 2 ∷ row 6 3 8 ∷ []) []
    -- out at 1, for every second: 10; at 5 the last second is over: 3, and the listing at 5 has no mark of it
    ∷ case (chosen (out 1 ∷ []) best ∷ []) 2 (row 2 3 2 ∷ []) (entry_as best 2 1 false (choice 1 0 1) ∷ [])
    ∷ case (chosen (out 1 ∷ []) best ∷ []) 6 (row 2 3 2 ∷ row 6 3 10 ∷ []) []
    ∷ case (chosen (out 5 ∷ []) best ∷ []) 5 (row 2 3 2 ∷ []) (entry_as best 2 1 false (choice 1 1 0) ∷ [])
    ∷ case (chosen (out 5 ∷ []) best ∷ []) 6 (row 2 3 2 ∷ row 6 3 3 ∷ []) []
    -- out for second 4 alone: 9. A choice that is not yet; and one taken back at the same clock
    ∷ case (chosen (back 4 ∷ out 3 ∷ []) best ∷ []) 3 (row 2 3 2 ∷ []) (entry_as best 2 1 false (choice 1 1 0) ∷ [])
    ∷ case (chosen (back 4 ∷ out 3 ∷ []) best ∷ []) 4 (row 2 3 2 ∷ []) (entry_as best 2 1 false (choice 0 1 1) ∷ [])
    ∷ case (chosen (back 4 ∷ out 3 ∷ []) best ∷ []) 6 (row 2 3 2 ∷ row 6 3 9 ∷ []) []
    ∷ case (chosen (back 3 ∷ out 3 ∷ []) best ∷ []) 6 (row 2 3 2 ∷ row 6 3 3 ∷ []) []
    -- two that end at 6, ids against the order of the codes, and one that is out keeps a lesser one from what it holds
    ∷ case (chosen (out 3 ∷ []) (event 1 7 2 2 4) ∷ at 0 (event 2 0 2 4 3) ∷ chosen (out 1 ∷ []) best ∷ []) 6
    (row 2 1 2 ∷ row 2 3 2 ∷ row 4 2 7 ∷ row 6 1 8 ∷ row 6 3 10 ∷ []) (entry_as (event 2 0 2 4 3) 4 0 false unheld ∷ [])
    -- one moment, 3: 4 ends, 2 loses its only control to 5, 3 gets none, 1 and 5 start
    ∷ case (at 0 (event 1 0 8 3 2) ∷ at 0 (event 2 0 1 1 4) ∷ at 0 (event 3 0 1 3 2) ∷ at 0 (event 4 0 2 2 1) ∷ at 0 (event 5 7 1 3 2) ∷ []) 3
    (row 1 2 2 ∷ row 2 4 2 ∷ row 3 4 3 ∷ row 3 2 7 ∷ row 3 3 7 ∷ row 3 1 2 ∷ row 3 5 2 ∷ [])
    (entry_as (event 1 0 8 3 2) 3 8 false stayed_in ∷ entry_as (event 2 0 1 1 4) 1 0 false stayed_in ∷ entry_as (event 3 0 1 3 2) 3 0 false unheld ∷ entry_as (event 5 7 1 3 2) 3 1 false stayed_in ∷ [])
    ∷ []

pub record ScheduleTables : Type 0 where
  -- the programs that were added, each in its place
  pub programs : programs_hold ≡ true
  -- rows and held events
  pub cases : schedules_hold schedule_table ≡ true

-- What a list brings.

abbrev added_numbers : List Added → List ℕ
added_numbers [] = []
added_numbers (a ∷ rest) = a.number ∷ a.primacy ∷ a.defaults ∷ added_numbers rest

abbrev clock_numbers : Option ℕ → List ℕ
clock_numbers none = 0 ∷ []
clock_numbers (some k) = 1 ∷ k ∷ []

abbrev choices_numbers : List Chosen → List ℕ
choices_numbers [] = []
choices_numbers (c ∷ cs) = c.clock ∷ cond c.out 1 0 ∷ choices_numbers cs

abbrev brought_numbers : List Brought → List ℕ
brought_numbers [] = []
brought_numbers (b ∷ bs) =
    event_numbers b.event ++ (b.receipt ∷ (clock_numbers b.cancelled ++ (length b.choices ∷ (choices_numbers b.choices ++ brought_numbers bs))))

abbrev history_numbers : History → List ℕ
history_numbers H = H.last ∷ length H.programs ∷ (added_numbers H.programs ++ (length H.brought ∷ brought_numbers H.brought))

-- calls from the fresh schedule, and what those of them that are accepted bring
pub record HistoryCase : Type 0 where
  pub calls : List Call
  pub history : History

unfoldable pub histories_hold : (List Call → History) → List HistoryCase → Bool
histories_hold see [] = true
histories_hold see (c ∷ cs) = same (history_numbers (see c.calls)) (history_numbers c.history) && histories_hold see cs

-- programs, events, last reading
abbrev brings : List Call → List Added → List Brought → ℕ → HistoryCase
brings cs ps bs t = record { calls = cs; history = record { programs = ps; brought = bs; last = t } }

-- received at a clock, and cancelled at another
abbrev ended : ℕ → ℕ → Event → Brought
ended receipt k e = record { event = e; receipt = receipt; cancelled = some k; choices = [] }

abbrev program : Added
program = record { number = 0; primacy = 1; defaults = 5 }

-- 20 to 30, with ids 1 and 2
abbrev left : Event
left = event 1 0 1 20 10

abbrev right : Event
right = event 2 0 1 20 10

-- 1 to 3 and 10 to 20, both with id 1
abbrev early : Event
early = event 1 0 1 1 2

abbrev again : Event
again = event 1 0 1 10 10

unfoldable pub history_table : List HistoryCase
history_table =
    brings [] [] [] 0
    -- what is refused brings nothing: a program twice, one that is none, an id that is not held, another event under a held id, a reading before the clock, a
    -- listing that does not fit. An event given again counts once, with the receipt clock of the first time; of two cancellations the first counts
    ∷ brings (
    deliver left ∷ add_program 0 1 5 ∷ add_program 0 1 5 ∷ add_program 8 1 5 ∷ cancel 1 ∷ deliver right ∷ set_clock 7 [] ∷ deliver left ∷ deliver right
    ∷ deliver (event 2 0 1 21 10) ∷ cancel 2 ∷ set_clock 8 [] ∷ cancel 2 ∷ set_clock 3 [] ∷ ask 0 ∷ list [] ∷ []
    ) (program ∷ []) (at 7 left ∷ ended 0 7 right ∷ []) 8
    -- an id used again: the cancellation is of the event held then, and not of the one before
    ∷ brings (add_program 0 1 5 ∷ deliver early ∷ set_clock 5 (replicate 50 0) ∷ deliver again ∷ cancel 1 ∷ []) (program ∷ []) (at 0 early ∷ ended 5 5 again ∷ []) 5
    ∷ brings (add_program 0 1 5 ∷ deliver early ∷ cancel 1 ∷ set_clock 5 [] ∷ deliver again ∷ []) (program ∷ []) (ended 0 0 early ∷ at 5 again ∷ []) 5
    -- #102: choices with their clocks, the last one first; what is refused and what repeats the present choice is none; those of an event are not those of its id
    ∷ brings (
    add_program 0 1 5 ∷ opt_out 1 ∷ deliver early ∷ opt_in 1 ∷ opt_out 1 ∷ opt_out 1 ∷ set_clock 2 (replicate 25 0) ∷ opt_out 1 ∷ opt_in 1 ∷ set_clock 5 (replicate 25 0)
    ∷ opt_in 1 ∷ deliver again ∷ opt_in 1 ∷ opt_out 1 ∷ deliver right ∷ opt_out 3 ∷ []
    ) (program ∷ []) (chosen (back 2 ∷ out 0 ∷ []) early ∷ record { event = again; receipt = 5; cancelled = none; choices = out 5 ∷ [] } ∷ at 5 right ∷ []) 5
    ∷ []
