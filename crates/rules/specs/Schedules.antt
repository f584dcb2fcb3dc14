-- Call lists, the schedule of a list: what the rules give for its programs, ALL its events with their receipt clocks, its cancellations and its last
-- reading. Nothing is dropped and no call is looked at.
use Rattle.std.specs.Prelude.{ℕ, zero, suc, Bool, false, cond, List, [], ◌∷◌, ◌++◌, map, leb, ltb, set}
use Rattle.std.proofs.Math.Option.{Option, none, some}
use Rattle.rules.specs.declared.Event.{Event}
use Rattle.rules.specs.declared.Entry.{Entry}
use Rattle.rules.specs.declared.Program.{Program}
use Rattle.rules.specs.Lists.{keep}
use Rattle.rules.specs.Records.{State, fresh}
use Rattle.rules.specs.Period.{effective_start, effective_end}
use Rattle.rules.specs.Holding.{Holding, no_holding, holding_at}
use Rattle.rules.specs.Rows.{Row, rows_at}
use Rattle.rules.specs.Calls.{program_of}
use Rattle.rules.specs.History.{Added, Chosen, Brought, History}

-- an event with its effective start, the clock of its cancellation if it has one, and its choices, the last one first
pub record Timed : Type 0 where
  pub event : Event
  pub begins : ℕ
  pub cancelled : Option ℕ
  pub choices : List Chosen

abbrev pub timed : Brought → Timed
timed b = record { event = b.event; begins = effective_start b.event b.receipt; cancelled = b.cancelled; choices = b.choices }

-- whether it was cancelled at clock t or before
abbrev pub gone_by : ℕ → Option ℕ → Bool
gone_by t none = false
gone_by t (some k) = leb k t

-- Document 02, #102: whether the user is out after the calls at clock t, by the last choice made then or before
abbrev pub out_by : ℕ → List Chosen → Bool
out_by t [] = false
out_by t (c ∷ cs) = cond (leb c.clock t) c.out (out_by t cs)

-- Who holds a control, a cancellation at clock k acts after everything of moment k: the event after moment t and the calls at clock t
abbrev pub as_entry : ℕ → Timed → Holding → Entry
as_entry t x k =
    let gone = gone_by t x.cancelled in
    record {
      event = x.event;
      begins = x.begins;
      held = cond gone 0 k.held;
      cancelled = gone;
      choice = record { out = out_by t x.choices; was_in = k.was_in; was_out = k.was_out };
    }

-- Effective period, held: whether the event is after moment t
abbrev pub living : ℕ → Timed → Bool
living t x = ltb t (effective_end x.event)

-- what the event x holds at moment t, of the events ts
unfoldable pub holding : List Program → List Timed → ℕ → Timed → Holding
holding ps ts zero x = no_holding
holding ps ts (suc t) x =
    holding_at ps (suc t) (map (λ o. as_entry t o (holding ps ts t o)) ts) (as_entry t x (holding ps ts t x))

-- the event after everything of moment t and the calls at clock t
abbrev pub seen : List Program → List Timed → ℕ → Timed → Entry
seen ps ts t x = as_entry t x (holding ps ts t x)

-- the rows of the moments from 1 to t
unfoldable pub rows_to : List Program → List Timed → ℕ → List Row
rows_to ps ts zero = []
rows_to ps ts (suc t) = rows_to ps ts t ++ rows_at ps (suc t) (map (seen ps ts t) ts)

-- the events held after everything of moment t and the calls at clock t
unfoldable pub held_events : List Program → List Timed → ℕ → List Entry
held_events ps ts t = map (seen ps ts t) (keep (living t) ts)

-- each program in its place
abbrev pub programs_of : List Added → List Program
programs_of [] = fresh.programs
programs_of (a ∷ rest) = set (programs_of rest) a.number (program_of a.primacy a.defaults)

abbrev pub times_of : History → List Timed
times_of H = map timed H.brought

abbrev pub state_at : List Program → List Timed → ℕ → State
state_at ps ts t = record { clock = t; programs = ps; entries = held_events ps ts t }

-- the state that a history leads to
abbrev pub state_of : History → State
state_of H = state_at (programs_of H.programs) (times_of H) H.last

-- Call lists, the schedule's rows for the moments from 1 to the last clock reading
abbrev pub rows_of : History → List Row
rows_of H = rows_to (programs_of H.programs) (times_of H) H.last
