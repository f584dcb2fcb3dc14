-- Demand 3: the order of arrival does not count. One statement about two whole lists of calls, each run from the fresh schedule.
use Rattle.std.specs.Prelude.{◌≡◌, ℕ, ◌<◌, ◌≤◌, Bool, true, false, List, [], ◌∷◌, ◌++◌, map, length, take}
use Rattle.std.proofs.Math.Option.{Option, none, some}
use Rattle.rules.specs.declared.Event.{Event}
use Rattle.rules.specs.declared.Entry.{Entry}
use Rattle.rules.specs.declared.Record.{Record}
use Rattle.rules.specs.declared.Schedule.{Schedule}
use Rattle.rules.specs.Lists.{over, In, Same, Pairwise}
use Rattle.rules.specs.Records.{id_of, has, fresh, pad}
use Rattle.rules.specs.Period.{drawn_start, period_of}
use Rattle.rules.specs.Rows.{Sooner}
use Rattle.rules.specs.Bytes.{bytes}
use Rattle.rules.specs.Refusals.{first_of}
use Rattle.rules.specs.Calls.{Call, list, ask, count, holder, Outcome, record_of, default_for, best_default, checks, counted, call, run, joined}
use Rattle.rules.specs.History.{Chosen, Brought, History, history_of}
use Rattle.rules.specs.Schedules.{Timed, timed, out_by, programs_of, times_of, seen, state_of, rows_of}

-- the schedule after a list of calls
abbrev pub after : List Call → Schedule
after cs = run (pad fresh) cs

-- the joined rows of a list of calls
abbrev pub joined_rows : List Call → List ℕ
joined_rows cs = joined (pad fresh) cs

-- What two lists share.

-- Call lists, the events of a list: records with all their fields
abbrev pub events_of : History → List Event
events_of H = map (λ b. b.event) H.brought

-- an event and the clock at which it was cancelled
pub record Cancellation : Type 0 where
  pub event : Event
  pub clock : ℕ

abbrev pub cancellation : Event → Option ℕ → List Cancellation → List Cancellation
cancellation e none rest = rest
cancellation e (some k) rest = record { event = e; clock = k } ∷ rest

abbrev pub cancellations_in : List Brought → List Cancellation
cancellations_in [] = []
cancellations_in (b ∷ bs) = cancellation b.event b.cancelled (cancellations_in bs)

-- Call lists, the cancellations of a list: by record, not by id
abbrev pub cancellations_of : History → List Cancellation
cancellations_of H = cancellations_in H.brought

-- an event and the choices on it, the last one first
pub record Choices : Type 0 where
  pub event : Event
  pub made : List Chosen

-- Document 02, #102, the choices of a list: by record, not by id; those on one event in their sequence with their clocks. Repeats of the present choice are
-- left out: lists that differ in them alone meet the premise, so it grants more than one that counts them.
abbrev pub choices_of : History → List Choices
choices_of H = map (λ b. record { event = b.event; made = b.choices }) H.brought

-- each event was first accepted before its drawn start
abbrev pub InTime : History → Type 0
InTime H = (b : Brought) → In b H.brought → b.receipt < drawn_start b.event

-- the premise: what the accepted calls of both lists bring
pub record SameArrivals (H K : History) : Type 0 where
  -- the same programs
  pub programs : Same H.programs K.programs
  -- the same events
  pub events : Same (events_of H) (events_of K)
  -- each first accepted before its drawn start, in the one list and in the other
  pub in_time : InTime H
  pub in_time_too : InTime K
  -- the same cancellations, each at the same clock reading
  pub cancellations : Same (cancellations_of H) (cancellations_of K)
  -- the same choices on each event, in the same sequence, each at the same clock reading; those on different events in any order
  pub choices : Same (choices_of H) (choices_of K)
  -- the same last clock reading
  pub last : H.last ≡ K.last

-- an event and its effective start
pub record Started : Type 0 where
  pub event : Event
  pub begins : ℕ

abbrev pub starts_of : History → List Started
starts_of H = map (λ x. record { event = x.event; begins = x.begins }) (times_of H)

-- a weaker premise that is enough: equal effective starts, late receipts or not
pub record SameStarts (H K : History) : Type 0 where
  pub programs : Same H.programs K.programs
  pub starts : Same (starts_of H) (starts_of K)
  pub cancellations : Same (cancellations_of H) (cancellations_of K)
  pub choices : Same (choices_of H) (choices_of K)
  pub last : H.last ≡ K.last

-- What the schedule of a list gives.

-- the events held after the last call, by the schedule
abbrev pub held_of : History → List Record
held_of H = map record_of (state_of H).entries

-- a listing: its count, and its records with the rest of the lent list untouched
pub record Listed (H : History) (lent : List Record) (o : Outcome) : Type 0 where
  pub accepted : o.number ≡ 0
  pub value : o.value ≡ count (length (held_of H))
  pub records : o.records ≡ over (held_of H) lent

-- whether the event holds the control after the last call, by the schedule
abbrev pub holds_now : History → ℕ → Timed → Bool
holds_now H c x = has (seen (programs_of H.programs) (times_of H) H.last x).held c

-- whether its user is out after the last call
abbrev pub out_now : History → Timed → Bool
out_now H x = out_by H.last x.choices

-- the answer for a control: the event that holds it if its user is in; the default if that one is out, or if none holds it
pub record Asked (H : History) (c : ℕ) (o : Outcome) : Type 0 where
  pub accepted : o.number ≡ 0
  pub held : (x : Timed) → In x (times_of H) → holds_now H c x ≡ true → out_now H x ≡ false → o.value ≡ holder (id_of x.event)
  pub out : (x : Timed) → In x (times_of H) → holds_now H c x ≡ true → out_now H x ≡ true → o.value ≡ default_for (best_default c 0 (programs_of H.programs))
  pub free : ((x : Timed) → In x (times_of H) → holds_now H c x ≡ false) → o.value ≡ default_for (best_default c 0 (programs_of H.programs))

-- no control is in both held masks
abbrev pub Apart : Entry → Entry → Type 0
Apart h o = (c : ℕ) → has h.held c ≡ true → has o.held c ≡ true → ⊥

-- no control is in two of the held masks
abbrev pub OneHolder : List Entry → Type 0
OneHolder hs = Pairwise Apart hs

-- Call lists, two holders: none after these calls, neither by their schedule nor in a listing made then
pub record NoTwoHolders (cs : List Call) : Type 0 where
  pub scheduled : OneHolder (map (seen (programs_of (history_of cs).programs) (times_of (history_of cs)) (history_of cs).last) (times_of (history_of cs)))
  pub listed : (lent : List Record) → (call (after cs) (list lent)).number ≡ 0
      → OneHolder (map (λ r. r.entry) (take (counted (call (after cs) (list lent)).value) (call (after cs) (list lent)).records))

-- THEOREM A, of every list: it gives what the schedule of its history gives
pub record AsScheduled (cs : List Call) : Type 0 where
  -- the schedule by value after the list is that of its history
  pub state : after cs ≡ pad (state_of (history_of cs))
  -- every event that was brought starts at the effective start that its receipt clock gives
  pub starts : (b : Brought) → In b (history_of cs).brought → (timed b).begins ≡ (period_of b.event b.receipt).start
  -- the joined rows are the schedule's rows for the moments from 1 to the last reading
  pub rows : joined_rows cs ≡ bytes (rows_of (history_of cs))
  -- the schedule's rows go by time, then code in the order 3, 7, 2, then id
  pub ascending : Pairwise Sooner (rows_of (history_of cs))
  -- every listing that is long enough gives the held events
  pub listed : (lent : List Record) → length (held_of (history_of cs)) ≤ length lent → Listed (history_of cs) lent (call (after cs) (list lent))
  -- every question is answered by the holder or the default
  pub asked : (c : ℕ) → c < 32 → Asked (history_of cs) c (call (after cs) (ask c))
  -- the number of each call is the one that the rules give for the schedule of what was accepted before it
  pub refusals : (before rest : List Call) (c : Call) → cs ≡ before ++ (c ∷ rest) → (call (after before) c).number ≡ first_of (checks (state_of (history_of before)) c)
  -- no call of it is refused with 2
  pub never_broken : (before rest : List Call) (c : Call) → cs ≡ before ++ (c ∷ rest) → (call (after before) c).number ≡ 2 → ⊥
  -- after no call of it does a control have two holders
  pub no_two_holders : (before rest : List Call) → cs ≡ before ++ rest → NoTwoHolders before

-- the conclusion: the same from both lists, and all of it the schedule's
pub record SameResults (a b : List Call) : Type 0 where
  -- equal joined rows
  pub rows : joined_rows a ≡ joined_rows b
  -- equal held events, whatever list is lent
  pub listed : (lent : List Record) → call (after a) (list lent) ≡ call (after b) (list lent)
  -- the same holder or default for every control
  pub asked : (c : ℕ) → c < 32 → call (after a) (ask c) ≡ call (after b) (ask c)
  -- all of these are the schedule's, and after no call of either list does a control have two holders
  pub first : AsScheduled a
  pub second : AsScheduled b

-- DEMAND 3
pub record ArrivalOrder : Type 0 where
  -- any two lists of calls with the same arrivals give the same results
  pub same : (a b : List Call) → SameArrivals (history_of a) (history_of b) → SameResults a b
  -- equal effective starts are enough
  pub starts : (a b : List Call) → SameStarts (history_of a) (history_of b) → SameResults a b
  -- theorem A, with no premise
  pub scheduled : (a : List Call) → AsScheduled a
