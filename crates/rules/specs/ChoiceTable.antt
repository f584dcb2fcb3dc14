-- Document 02, #102, users who opt out: worked cases.
use Rattle.std.specs.Prelude.{ℕ, ◌+◌, Bool, true, cond, ◌&&◌, List, [], ◌∷◌, ◌++◌, map, eqb, length, drop}
use Rattle.rules.specs.declared.Event.{Event}
use Rattle.rules.specs.Rows.{Row}
use Rattle.rules.specs.Bytes.{bytes}
use Rattle.rules.specs.Calls.{Call, add_program, deliver, cancel, opt_out, opt_in, set_clock, ask, Governor, by_event, by_program, by_none, Value, nothing, code, count, governor}
use Rattle.rules.specs.Marks.{buffer, undrawn, Reply, same, rows_in}

-- calls after events were delivered at clock 4000; then what those of them answer that set no clock, and the rows of all up to 6000
pub record ChoiceCase : Type 0 where
  pub events : List Event
  pub calls : List Call
  pub said : List ℕ
  pub rows : List Row

-- an answer as a number: a code, the id of an event, 100 and the number of a program, 0 for nobody; of a reading none
abbrev governor_said : Governor → ℕ
governor_said (by_event i) = i
governor_said (by_program p) = 100 + p
governor_said by_none = 0

abbrev value_said : Value → List ℕ
value_said nothing = []
value_said (code n) = n ∷ []
value_said (count n) = []
value_said (governor g) = governor_said g ∷ []

-- the number of a refusal, else the answer
abbrev said_in : List Reply → List ℕ
said_in [] = []
said_in (r ∷ rs) = cond (eqb r.number 0) (value_said r.value) (r.number ∷ []) ++ said_in rs

-- program 0 has a default for control 0
abbrev calls_of : ChoiceCase → List Call
calls_of c = add_program 0 0 1 ∷ set_clock 4000 [] ∷ (map deliver c.events ++ (c.calls ++ (set_clock 6000 buffer ∷ [])))

-- whether each case holds, of what `see` shows of a list of calls
unfoldable pub choices_hold : (List Call → List Reply) → List ChoiceCase → Bool
choices_hold see [] = true
choices_hold see (c ∷ cs) =
    let rs = see (calls_of c) in
    same (said_in (drop (2 + length c.events) rs)) c.said && (same (rows_in rs) (bytes c.rows) && choices_hold see cs)

-- id, controls, start, duration
abbrev event : ℕ → ℕ → ℕ → ℕ → Event
event i controls start duration = undrawn i 0 controls 0 start duration

-- 5000 to 5010 on control 0
abbrev one : Event
one = event 1 1 5000 10

abbrev row : ℕ → ℕ → ℕ → Row
row t i k = record { time = t; id = i; code = k }

abbrev to : ℕ → Call
to t = set_clock t buffer

abbrev case : List Event → List Call → List ℕ → List Row → ChoiceCase
case es cs said rows = record { events = es; calls = cs; said = said; rows = rows }

-- the one event, from its start with code 2 to its end with a code
abbrev alone : List Call → List ℕ → ℕ → ChoiceCase
alone cs said k = case (one ∷ []) cs said (row 5000 1 2 ∷ row 5010 1 k ∷ [])

unfoldable pub choice_table : List ChoiceCase
choice_table =
    -- in throughout
    alone [] [] 3
    -- out before the start, at the start less 1, at the start, at the end less 2, at the end less 1, at the end
    ∷ alone (opt_out 1 ∷ []) (4 ∷ []) 10
    ∷ alone (to 4999 ∷ opt_out 1 ∷ []) (4 ∷ []) 10
    ∷ alone (to 5000 ∷ opt_out 1 ∷ []) (4 ∷ []) 8
    ∷ alone (to 5008 ∷ opt_out 1 ∷ []) (4 ∷ []) 8
    ∷ alone (to 5009 ∷ opt_out 1 ∷ []) (4 ∷ []) 3
    ∷ alone (to 5010 ∷ opt_out 1 ∷ []) (11 ∷ []) 3
    -- out and in again: for some seconds, for one, before the next second, before the start
    ∷ alone (to 5003 ∷ opt_out 1 ∷ to 5006 ∷ opt_in 1 ∷ []) (4 ∷ 5 ∷ []) 9
    ∷ alone (to 5003 ∷ opt_out 1 ∷ to 5004 ∷ opt_in 1 ∷ []) (4 ∷ 5 ∷ []) 9
    ∷ alone (to 5003 ∷ opt_out 1 ∷ opt_in 1 ∷ []) (4 ∷ 5 ∷ []) 3
    ∷ alone (opt_out 1 ∷ to 4999 ∷ opt_in 1 ∷ []) (4 ∷ 5 ∷ []) 3
    -- out throughout, and in from the end less 2, from the end less 1
    ∷ alone (opt_out 1 ∷ to 5008 ∷ opt_in 1 ∷ []) (4 ∷ 5 ∷ []) 9
    ∷ alone (opt_out 1 ∷ to 5009 ∷ opt_in 1 ∷ []) (4 ∷ 5 ∷ []) 10
    -- in and out, and the choice at the end less 1 decides between 8 and 9
    ∷ alone (to 5003 ∷ opt_out 1 ∷ to 5009 ∷ opt_in 1 ∷ []) (4 ∷ 5 ∷ []) 9
    ∷ alone (to 5003 ∷ opt_out 1 ∷ to 5006 ∷ opt_in 1 ∷ to 5009 ∷ opt_out 1 ∷ []) (4 ∷ 5 ∷ 4 ∷ []) 8
    -- answers: in on a new event, out, out again, in, in again; an id that is not held
    ∷ alone (opt_in 1 ∷ opt_out 1 ∷ opt_out 1 ∷ opt_in 1 ∷ opt_in 1 ∷ opt_out 2 ∷ opt_in 2 ∷ []) (0 ∷ 4 ∷ 0 ∷ 5 ∷ 0 ∷ 11 ∷ 11 ∷ []) 3
    -- questions go by the choice at once
    ∷ alone (ask 0 ∷ to 5003 ∷ ask 0 ∷ opt_out 1 ∷ ask 0 ∷ to 5004 ∷ ask 0 ∷ opt_in 1 ∷ ask 0 ∷ []) (100 ∷ 1 ∷ 4 ∷ 100 ∷ 100 ∷ 5 ∷ 1 ∷ []) 9
    -- on a cancelled event: no row
    ∷ case (one ∷ []) (to 5003 ∷ cancel 1 ∷ opt_out 1 ∷ to 5005 ∷ opt_in 1 ∷ opt_in 1 ∷ []) (6 ∷ 4 ∷ 5 ∷ 0 ∷ []) (row 5000 1 2 ∷ [])
    -- on a superseded event, and no lesser event steps in for an opted-out one; where nobody holds it there is no default for control 1
    ∷ case (one ∷ event 2 3 5005 10 ∷ []) (to 5006 ∷ opt_out 1 ∷ ask 0 ∷ opt_in 1 ∷ opt_out 2 ∷ ask 0 ∷ ask 1 ∷ []) (4 ∷ 2 ∷ 5 ∷ 4 ∷ 100 ∷ 0 ∷ [])
    (row 5000 1 2 ∷ row 5005 1 7 ∷ row 5005 2 2 ∷ row 5015 2 8 ∷ [])
    -- ends of one second by id and not by code: 8 and 3, 10 and 3, 9 and 8; then a superseded one, then a start
    ∷ case (one ∷ event 2 2 5000 10 ∷ []) (to 5003 ∷ opt_out 1 ∷ []) (4 ∷ []) (row 5000 1 2 ∷ row 5000 2 2 ∷ row 5010 1 8 ∷ row 5010 2 3 ∷ [])
    ∷ case (one ∷ event 2 2 5000 10 ∷ []) (opt_out 1 ∷ []) (4 ∷ []) (row 5000 1 2 ∷ row 5000 2 2 ∷ row 5010 1 10 ∷ row 5010 2 3 ∷ [])
    ∷ case (event 3 1 5000 10 ∷ event 2 2 5000 10 ∷ []) (to 5003 ∷ opt_out 3 ∷ opt_out 2 ∷ to 5005 ∷ opt_in 2 ∷ []) (4 ∷ 4 ∷ 5 ∷ [])
    (row 5000 2 2 ∷ row 5000 3 2 ∷ row 5010 2 9 ∷ row 5010 3 8 ∷ [])
    ∷ case (event 4 1 5000 10 ∷ event 1 2 5000 20 ∷ event 2 2 5010 10 ∷ []) (opt_out 4 ∷ []) (4 ∷ [])
    (row 5000 1 2 ∷ row 5000 4 2 ∷ row 5010 4 10 ∷ row 5010 1 7 ∷ row 5010 2 2 ∷ row 5020 2 3 ∷ [])
    ∷ []
