-- Bench marks T1 to T12 and document 01's worked example, as data.
use Rattle.std.specs.Prelude.{ℕ, ◌-◌, ◌*◌, Bool, true, false, ◌&&◌, List, [], ◌∷◌, ◌++◌, map, eqb, take, drop, replicate}
use Rattle.rules.specs.declared.Event.{Event}
use Rattle.rules.specs.declared.Choice.{Choice}
use Rattle.rules.specs.declared.Period.{Period}
use Rattle.rules.specs.declared.Record.{Record}
use Rattle.rules.specs.declared.Schedule.{Schedule}
use Rattle.rules.specs.Records.{event_of}
use Rattle.rules.specs.Period.{period_of}
use Rattle.rules.specs.Rows.{Row}
use Rattle.rules.specs.Bytes.{row_size, bytes}
use Rattle.rules.specs.Calls.{Call, add_program, deliver, set_clock, ask, Governor, by_event, by_program, by_none, Value, nothing, code, count, governor, Outcome, call, counted}

abbrev pub buffer : List ℕ
buffer = replicate 200 0

-- -k on 16 bits
abbrev pub minus : ℕ → ℕ
minus k = 65536 - k

-- id, program, controls, creation time, start, duration; nothing drawn
abbrev pub undrawn : ℕ → ℕ → ℕ → ℕ → ℕ → ℕ → Event
undrawn i program controls created start duration = event_of i program controls created start duration 0 0 0 0

-- id, program, controls, creation time, drawn start (the start 3,600 drawn back), duration
abbrev pub drawn_back : ℕ → ℕ → ℕ → ℕ → ℕ → ℕ → Event
drawn_back i program controls created start duration = event_of i program controls created 3600 duration (minus 3600) 0 (minus (3600 - start)) 0

-- a choice by 0 and 1: whether the user is out now, was in for a held second, was out for one
abbrev pub choice : ℕ → ℕ → ℕ → Choice
choice out was_in was_out = record { out = eqb out 1; was_in = eqb was_in 1; was_out = eqb was_out 1 }

-- of an event that has held nothing yet, and of one that has; the user never out
abbrev pub unheld : Choice
unheld = choice 0 0 0

abbrev pub stayed_in : Choice
stayed_in = choice 0 1 0

-- what a host sees of a call
pub record Reply : Type 0 where
  pub number : ℕ
  pub value : Value
  pub bytes : List ℕ
  pub records : List Record

abbrev pub reply_of : Outcome → Reply
reply_of o = record { number = o.number; value = o.value; bytes = o.bytes; records = o.records }

-- what a host sees of a list of calls
unfoldable pub replies : Schedule → List Call → List Reply
replies s [] = []
replies s (c ∷ cs) = let o = call s c in reply_of o ∷ replies o.state cs

-- an answer that is fixed: the number of a refusal (0 for none) and the code
pub record FixedAnswer : Type 0 where
  pub number : ℕ
  pub code : ℕ

-- a question, and the event that holds the control then
pub record Question : Type 0 where
  pub time : ℕ
  pub control : ℕ
  pub id : ℕ

-- a case: events received at a clock; then what it fixes: the answer to each delivery, effective periods, the rows up to clock 6000, holders
pub record Case : Type 0 where
  pub received : ℕ
  pub events : List Event
  pub answers : List FixedAnswer
  pub periods : List Period
  pub rows : List Row
  pub holders : List Question

-- program 0 has primacy 0, program 1 primacy 1, neither a default; questions are put at their times
abbrev pub asked : List Question → List Call
asked [] = []
asked (q ∷ qs) = set_clock q.time buffer ∷ ask q.control ∷ asked qs

abbrev pub calls_of : Case → List Call
calls_of c =
    add_program 0 0 0 ∷ add_program 1 1 0 ∷ set_clock c.received []
    ∷ (map deliver c.events ++ (asked c.holders ++ (set_clock 6000 buffer ∷ [])))

abbrev pub same : List ℕ → List ℕ → Bool
same [] [] = true
same [] (y ∷ ys) = false
same (x ∷ xs) [] = false
same (x ∷ xs) (y ∷ ys) = eqb x y && same xs ys

abbrev pub is_code : Value → ℕ → Bool
is_code nothing k = eqb k 0
is_code (code n) k = eqb n k
is_code (count n) k = false
is_code (governor g) k = false

abbrev pub answers_hold : List FixedAnswer → List Reply → Bool
answers_hold [] rs = true
answers_hold (a ∷ more) [] = false
answers_hold (a ∷ more) (r ∷ rs) = eqb r.number a.number && is_code r.value a.code && answers_hold more rs

abbrev pub periods_hold : ℕ → List Period → List Event → Bool
periods_hold clock [] es = true
periods_hold clock (p ∷ ps) [] = false
periods_hold clock (p ∷ ps) (e ∷ es) =
    eqb (period_of e clock).start p.start && eqb (period_of e clock).end p.end && eqb (period_of e clock).earliest p.earliest
    && periods_hold clock ps es

-- the rows of all clock calls
abbrev pub rows_in : List Reply → List ℕ
rows_in [] = []
rows_in (r ∷ rs) = take (row_size * counted r.value) r.bytes ++ rows_in rs

abbrev pub holder_ids : Governor → List ℕ
holder_ids (by_event i) = i ∷ []
holder_ids (by_program p) = []
holder_ids by_none = []

abbrev pub ids_in : Value → List ℕ
ids_in nothing = []
ids_in (code n) = []
ids_in (count n) = []
ids_in (governor g) = holder_ids g

-- the holders that the questions name
abbrev pub holders_in : List Reply → List ℕ
holders_in [] = []
holders_in (r ∷ rs) = ids_in r.value ++ holders_in rs

-- whether a case holds, of what `see` shows of a list of calls
unfoldable pub case_holds : (List Call → List Reply) → Case → Bool
case_holds see c =
    let rs = see (calls_of c) in
    answers_hold c.answers (drop 3 rs)
    && periods_hold c.received c.periods c.events
    && same (rows_in rs) (bytes c.rows)
    && same (holders_in rs) (map (λ q. q.id) c.holders)

-- whether each case of a table does
unfoldable pub all_hold : (List Call → List Reply) → List Case → Bool
all_hold see [] = true
all_hold see (c ∷ cs) = case_holds see c && all_hold see cs

-- Numbers given: a call after others, and its number, 0 if it is accepted
pub record Edge : Type 0 where
  pub before : List Call
  pub last : Call
  pub number : ℕ

abbrev pub last_is : ℕ → List Reply → Bool
last_is n [] = false
last_is n (r ∷ []) = eqb r.number n
last_is n (r ∷ s ∷ rs) = last_is n (s ∷ rs)

-- whether each edge is where the table has it
unfoldable pub edges_hold : (List Call → List Reply) → List Edge → Bool
edges_hold see [] = true
edges_hold see (e ∷ es) = last_is e.number (see (e.before ++ (e.last ∷ []))) && edges_hold see es
