-- Calls: the eight, as one function from a schedule by value and a call to what the call gives and leaves.
use Rattle.std.specs.Prelude.{ℕ, suc, ◌*◌, Bool, true, false, cond, not, ◌&&◌, ◌||◌, List, [], ◌∷◌, ◌++◌, map, leb, eqb, length, take, set, Result, Ok, Err}
use Rattle.std.proofs.Math.Option.{Option, none, some}
use Rattle.rules.specs.declared.Event.{Event}
use Rattle.rules.specs.declared.Entry.{Entry}
use Rattle.rules.specs.declared.Record.{Record}
use Rattle.rules.specs.declared.Program.{Program}
use Rattle.rules.specs.declared.Schedule.{Schedule}
use Rattle.rules.specs.declared.Refusal.{Refusal}
use Rattle.rules.specs.declared.Refusal.TheVariants.{NoFrame, BrokenRule, NoSuchProgram, AddedBefore, ReservedPrimacy, NotAdded, Malformed, OtherFields, Late, Full, NotHeld, ClockOutOfRange, NoRoom, NoSuchControl, UpperHalf}
use Rattle.rules.specs.declared.Response.{Response}
use Rattle.rules.specs.declared.Response.TheVariants.{Silent, Received, Started, Completed, OptedOut, OptedIn, Cancelled, Superseded, PartlyOut, PartlyIn, NotTaken}
use Rattle.rules.specs.declared.Reply.{Reply}
use Rattle.rules.specs.declared.Reply.TheVariants.{Code, Count, Holder, Default, Nobody}
use Rattle.rules.specs.Lists.{insert, over}
use Rattle.rules.specs.Records.{State, id_number, id_of, has, no_choice, differ, view, pad}
use Rattle.rules.specs.Period.{earliest_start, period_of}
use Rattle.rules.specs.Bytes.{row_size, bytes}
use Rattle.rules.specs.Moments.{Moved, passed}
use Rattle.rules.specs.Sound.{sound}
use Rattle.rules.specs.Refusals.{Check, ◌if◌, first_of, find, program_checks, event_checks, held_checks, clock_checks, ask_checks, list_checks}

-- Calls, those that are lent nothing: by what is given
pub data Bare : Type 0 where
  program : (number primacy defaults : ℕ) → Bare
  event : Event → Bare
  cancellation : (id : ℕ) → Bare
  decision : (id : ℕ) (out : Bool) → Bare
  question : (control : ℕ) → Bare

-- Calls, call: with all that is given to it, by what is lent to it: nothing, a buffer or a list
pub data Call : Type 0 where
  bare : Bare → Call
  set_clock : (reading : ℕ) (buffer : List ℕ) → Call
  list : (records : List Record) → Call

abbrev pub add_program : (number primacy defaults : ℕ) → Call
add_program number primacy defaults = bare (program number primacy defaults)

abbrev pub deliver : Event → Call
deliver e = bare (event e)

abbrev pub cancel : (id : ℕ) → Call
cancel id = bare (cancellation id)

-- Document 02, #102: opt out or opt in, one call with the choice
abbrev pub choose : (id : ℕ) (out : Bool) → Call
choose id out = bare (decision id out)

abbrev pub opt_out : (id : ℕ) → Call
opt_out id = choose id true

abbrev pub opt_in : (id : ℕ) → Call
opt_in id = choose id false

abbrev pub ask : (control : ℕ) → Call
ask control = bare (question control)

-- Calls, ask for a control, what governs it: the event that holds it, else the program of its default, else neither
pub data Governor : Type 0 where
  by_event : (id : ℕ) → Governor
  by_program : (program : ℕ) → Governor
  by_none : Governor

-- Calls, answer: a response code (0 says that nothing changed), a count, or what governs a control
pub data Value : Type 0 where
  nothing : Value
  code : (n : ℕ) → Value
  count : (n : ℕ) → Value
  governor : Governor → Value

abbrev pub holder : (id : ℕ) → Value
holder id = governor (by_event id)

abbrev pub default : (program : ℕ) → Value
default p = governor (by_program p)

abbrev pub nobody : Value
nobody = governor by_none

-- Numbers given, the number of each refusal
abbrev pub refusal_number : Refusal → ℕ
refusal_number NoFrame = 1
refusal_number BrokenRule = 2
refusal_number NoSuchProgram = 3
refusal_number AddedBefore = 4
refusal_number ReservedPrimacy = 5
refusal_number NotAdded = 6
refusal_number Malformed = 7
refusal_number OtherFields = 8
refusal_number Late = 9
refusal_number Full = 10
refusal_number NotHeld = 11
refusal_number ClockOutOfRange = 12
refusal_number NoRoom = 13
refusal_number NoSuchControl = 14
refusal_number UpperHalf = 15

-- Response codes, the number of each; document 02, #102: 4 and 5, 8 to 10
abbrev pub response_number : Response → ℕ
response_number Silent = 0
response_number Received = 1
response_number Started = 2
response_number Completed = 3
response_number OptedOut = 4
response_number OptedIn = 5
response_number Cancelled = 6
response_number Superseded = 7
response_number PartlyOut = 8
response_number PartlyIn = 9
response_number NotTaken = 10

-- Form by location, answers that are enums: document 01's value for each reply
abbrev pub reply_value : Reply → Value
reply_value (Code k) = code k
reply_value (Count n) = count n
reply_value (Holder i) = holder (id_number i)
reply_value (Default p) = default p
reply_value Nobody = nobody

-- Form by location, answers that are enums: document 01's number for each case, 0 if the call was accepted
abbrev pub number_of : Result Reply Refusal → ℕ
number_of (Ok r) = 0
number_of (Err e) = refusal_number e

-- Form by location, answers that are enums: document 01's value for each case, whatever says why a call was refused
abbrev pub value_of : {E : Type 0} → Result Reply E → Value
value_of (Ok r) = reply_value r
value_of (Err e) = nothing

-- what an accepted call gives and leaves
pub record Done : Type 0 where
  pub state : State
  pub value : Value
  pub bytes : List ℕ
  pub records : List Record

-- what a call gives and leaves: number, answer, schedule, lent buffer, lent list
pub record Outcome : Type 0 where
  pub number : ℕ
  pub value : Value
  pub state : Schedule
  pub bytes : List ℕ
  pub records : List Record

-- Calls, add a program

abbrev pub program_of : ℕ → ℕ → Program
program_of primacy defaults = record { added = true; primacy = primacy; defaults = defaults }

abbrev pub with_program : State → ℕ → Program → State
with_program s n p = record { clock = s.clock; programs = set s.programs n p; entries = s.entries }

-- Calls, deliver an event

abbrev pub entry_id : Entry → ℕ
entry_id h = id_of h.event

-- an event as it is first held
abbrev pub entry : ℕ → Event → Entry
entry clock e = record { event = e; begins = (period_of e clock).start; held = 0; cancelled = false; choice = no_choice }

abbrev pub with_entries : State → List Entry → State
with_entries s hs = record { clock = s.clock; programs = s.programs; entries = hs }

-- new, or held already and then no change
abbrev pub received : Option Entry → Value
received none = code 1
received (some h) = code 0

abbrev pub receive : State → Event → Option Entry → State
receive s e none = with_entries s (insert entry_id (entry s.clock e) s.entries)
receive s e (some h) = s

-- Calls, cancel

-- an entry with its mark set and nothing held, if it is the one under the id
abbrev pub mark : ℕ → Entry → Entry
mark i h =
    let it = eqb (entry_id h) i in
    record { event = h.event; begins = h.begins; held = cond it 0 h.held; cancelled = it || h.cancelled; choice = h.choice }

abbrev pub cancel_code : Option Entry → Value
cancel_code none = nothing
cancel_code (some h) = cond h.cancelled (code 0) (code 6)

-- Document 02, #102, opt out and opt in

-- an entry with the choice made, if it is the one under the id
abbrev pub decide : ℕ → Bool → Entry → Entry
decide i out h =
    record {
      event = h.event;
      begins = h.begins;
      held = h.held;
      cancelled = h.cancelled;
      choice = record { out = cond (eqb (entry_id h) i) out h.choice.out; was_in = h.choice.was_in; was_out = h.choice.was_out };
    }

-- 4 for out and 5 for in, or 0 if it repeats the present choice
abbrev pub choice_code : Bool → Option Entry → Value
choice_code out none = nothing
choice_code out (some h) = cond (differ h.choice.out out) (cond out (code 4) (code 5)) (code 0)

-- Calls, set the clock: the state, the count and the bytes of the moments passed
abbrev pub clocked : Moved → List ℕ → Done
clocked m b = record { state = m.state; value = count (length m.rows); bytes = over (bytes m.rows) b; records = [] }

-- Calls, ask for a control

-- a program's number with its primacy
pub record Ranked : Type 0 where
  pub number : ℕ
  pub primacy : ℕ

-- the one with the lower primacy, the first if they are equal
abbrev pub best_of : Option Ranked → Option Ranked → Option Ranked
best_of none q = q
best_of (some p) none = some p
best_of (some p) (some q) = cond (leb p.primacy q.primacy) (some p) (some q)

-- of the programs numbered from n on, the best whose defaults carry the control
unfoldable pub best_default : ℕ → ℕ → List Program → Option Ranked
best_default c n [] = none
best_default c n (p ∷ ps) =
    best_of (cond (p.added && has p.defaults c) (some (record { number = n; primacy = p.primacy })) none) (best_default c (suc n) ps)

abbrev pub default_for : Option Ranked → Value
default_for none = nobody
default_for (some q) = default q.number

-- Document 02, #102, a question: whether the event holds the control and its user is in; else it is as though it did not hold it
abbrev pub governs : ℕ → Entry → Bool
governs c h = has h.held c && not h.choice.out

-- the holder of a control, if its user is in, else what else there is
unfoldable pub holder_in : ℕ → List Entry → Value → Value
holder_in c [] else = else
holder_in c (h ∷ hs) else = cond (governs c h) (holder (entry_id h)) (holder_in c hs else)

unfoldable pub answer_for : State → ℕ → Value
answer_for s c = holder_in c s.entries (default_for (best_default c 0 s.programs))

-- Calls, list

-- what a listing gives for a held event; document 02, #101: with its earliest start
abbrev pub record_of : Entry → Record
record_of h = record { entry = h; earliest = earliest_start h.event }

-- Calls, what each does once no number refuses it; of those that are lent nothing, the state and the answer

abbrev pub state_after : State → Bare → State
state_after s (program n p d) = with_program s n (program_of p d)
state_after s (event e) = receive s e (find (id_of e) s.entries)
state_after s (cancellation i) = with_entries s (map (mark i) s.entries)
state_after s (decision i out) = with_entries s (map (decide i out) s.entries)
state_after s (question c) = s

abbrev pub answer_to : State → Bare → Value
answer_to s (program n p d) = code 0
answer_to s (event e) = received (find (id_of e) s.entries)
answer_to s (cancellation i) = cancel_code (find i s.entries)
answer_to s (decision i out) = choice_code out (find i s.entries)
answer_to s (question c) = answer_for s c

unfoldable pub does : State → Call → Done
does s (bare c) = record { state = state_after s c; value = answer_to s c; bytes = []; records = [] }
does s (set_clock t b) = clocked (passed s t) b
does s (list r) = record { state = s; value = count (length s.entries); bytes = []; records = over (map record_of s.entries) r }

-- Numbers given, the checks that are a call's own
abbrev pub bare_checks : State → Bare → List Check
bare_checks s (program n p d) = program_checks s n p
bare_checks s (event e) = event_checks s e (find (id_of e) s.entries)
bare_checks s (cancellation i) = held_checks (find i s.entries)
bare_checks s (decision i out) = held_checks (find i s.entries)
bare_checks s (question c) = ask_checks c

unfoldable pub checks : State → Call → List Check
checks s (bare c) = bare_checks s c
checks s (set_clock t b) = clock_checks s.clock t (length (passed s t).rows) (length b)
checks s (list r) = list_checks (length s.entries) (length r)

-- Numbers given, refusal: the first number that applies, 0 for none; 2 stands before a call's own
unfoldable pub refusal : Schedule → Call → ℕ
refusal s c = first_of (2 if not (sound s) ∷ checks (view s) c)

-- Call lists, accepted
abbrev pub accepts : Schedule → Call → Bool
accepts s c = eqb (refusal s c) 0

abbrev pub lent_bytes : Call → List ℕ
lent_bytes (bare c) = []
lent_bytes (set_clock t b) = b
lent_bytes (list r) = []

abbrev pub lent_list : Call → List Record
lent_list (bare c) = []
lent_list (set_clock t b) = []
lent_list (list r) = r

-- an accepted call
abbrev pub accepted : Done → Outcome
accepted d = record { number = 0; value = d.value; state = pad d.state; bytes = d.bytes; records = d.records }

-- Numbers given, a refused call: its number, with the schedule, the buffer and the list as they came in
abbrev pub refused : Schedule → Call → Outcome
refused s c = record { number = refusal s c; value = nothing; state = s; bytes = lent_bytes c; records = lent_list c }

-- THE CALL: every promise of a call by value is an equation with it
unfoldable pub call : Schedule → Call → Outcome
call s c = cond (accepts s c) (accepted (does (view s) c)) (refused s c)

-- Call lists, the schedule after a list of calls
unfoldable pub run : Schedule → List Call → Schedule
run s [] = s
run s (c ∷ cs) = run (call s c).state cs

abbrev pub counted : Value → ℕ
counted nothing = 0
counted (code n) = 0
counted (count n) = n
counted (governor g) = 0

-- Call lists, the bytes of the rows that a call wrote, its buffer read as it ended
abbrev pub written : Call → Outcome → List ℕ
written (bare c) o = []
written (set_clock t b) o = take (row_size * counted o.value) o.bytes
written (list r) o = []

-- Call lists, joined rows
unfoldable pub joined : Schedule → List Call → List ℕ
joined s [] = []
joined s (c ∷ cs) = let o = call s c in written c o ++ joined o.state cs
