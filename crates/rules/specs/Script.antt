-- Calls made one after the other from the fresh schedule, each beside all that it gives: number, answer, lent buffer, lent list.
use Rattle.std.specs.Prelude.{ℕ, Bool, true, false, cond, ◌&&◌, List, [], ◌∷◌, ◌++◌, map, eqb}
use Rattle.rules.specs.declared.Program.{Program}
use Rattle.rules.specs.declared.Choice.{Choice}
use Rattle.rules.specs.declared.Entry.{Entry}
use Rattle.rules.specs.declared.Record.{Record}
use Rattle.rules.specs.Calls.{Call, Governor, by_event, by_program, by_none, Value, nothing, code, count, governor, lent_bytes, lent_list}
use Rattle.rules.specs.LineTable.{event_numbers}
use Rattle.rules.specs.Marks.{Reply, same}

-- an answer as numbers
abbrev pub governor_numbers : Governor → List ℕ
governor_numbers (by_event i) = 3 ∷ i ∷ []
governor_numbers (by_program p) = 4 ∷ p ∷ []
governor_numbers by_none = 5 ∷ []

abbrev pub value_numbers : Value → List ℕ
value_numbers nothing = 0 ∷ []
value_numbers (code n) = 1 ∷ n ∷ []
value_numbers (count n) = 2 ∷ n ∷ []
value_numbers (governor g) = governor_numbers g

-- programs as numbers, three for each place
abbrev pub program_numbers : List Program → List ℕ
program_numbers [] = []
program_numbers (p ∷ ps) = cond p.added 1 0 ∷ p.primacy ∷ p.defaults ∷ program_numbers ps

-- a choice as numbers: out now, was in, was out
abbrev pub choice_numbers : Choice → List ℕ
choice_numbers c = cond c.out 1 0 ∷ cond c.was_in 1 0 ∷ cond c.was_out 1 0 ∷ []

-- a held event as numbers: its fields, effective start, held mask, cancelled mark, choice
abbrev pub entry_numbers : Entry → List ℕ
entry_numbers h = event_numbers h.event ++ (h.begins ∷ h.held ∷ cond h.cancelled 1 0 ∷ choice_numbers h.choice)

abbrev pub entries_numbers : List Entry → List ℕ
entries_numbers [] = []
entries_numbers (h ∷ hs) = entry_numbers h ++ entries_numbers hs

-- listed records as numbers: each event as it is held, and its earliest start
abbrev pub records_numbers : List Record → List ℕ
records_numbers [] = []
records_numbers (r ∷ rs) = entry_numbers r.entry ++ (r.earliest ∷ records_numbers rs)

-- a call, and what it gives
pub record Step : Type 0 where
  pub call : Call
  pub number : ℕ
  pub value : Value
  pub bytes : List ℕ
  pub records : List Record

abbrev pub step_holds : Step → Reply → Bool
step_holds s r =
    eqb r.number s.number
    && same (value_numbers r.value) (value_numbers s.value)
    && same r.bytes s.bytes
    && same (records_numbers r.records) (records_numbers s.records)

abbrev pub steps_hold : List Step → List Reply → Bool
steps_hold [] [] = true
steps_hold [] (r ∷ rs) = false
steps_hold (s ∷ ss) [] = false
steps_hold (s ∷ ss) (r ∷ rs) = step_holds s r && steps_hold ss rs

-- whether each script of a table holds, of what `see` shows of a list of calls
unfoldable pub scripts_hold : (List Call → List Reply) → List (List Step) → Bool
scripts_hold see [] = true
scripts_hold see (s ∷ ss) = steps_hold s (see (map (λ x. x.call) s)) && scripts_hold see ss

infix 70 ◌answers◌
-- an accepted call that is lent nothing
abbrev pub ◌answers◌ : Call → Value → Step
c answers v = record { call = c; number = 0; value = v; bytes = []; records = [] }

infix 70 ◌refused◌
-- a refused call: the buffer and the list as they came in
abbrev pub ◌refused◌ : Call → ℕ → Step
c refused n = record { call = c; number = n; value = nothing; bytes = lent_bytes c; records = lent_list c }
