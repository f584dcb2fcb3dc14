-- Calls, list: what a listing says of every lent list.
use Rattle.std.specs.Prelude.{◌≡◌, ℕ, ◌≤◌, true, List, [], length, replicate, Result, Err, MatchResult}
use Rattle.rules.specs.declared.Record.{Record}
use Rattle.rules.specs.declared.Schedule.{Schedule}
use Rattle.rules.specs.declared.Refusal.{Refusal}
use Rattle.rules.specs.declared.Reply.{Reply}
use Rattle.rules.specs.Records.{most_events, no_entry}
use Rattle.rules.specs.Sound.{sound}
use Rattle.rules.specs.Calls.{Outcome, number_of, value_of, record_of, list, call}
use Rattle.listing.specs.declared.AnsweredList.{AnsweredList}
use Rattle.calls.specs.Answered.{outcome_of}

-- a list of empty records, one for each event that can be held
abbrev pub no_records : List Record
no_records = replicate most_events (record_of no_entry)

-- what `listed` returned, read as an outcome: its records are the lent list as the call ended
abbrev pub listed_outcome : AnsweredList → Outcome
listed_outcome r = record { number = number_of r.answer; value = value_of r.answer; state = r.schedule; bytes = []; records = r.records }

-- the answer of a call that leaves the schedule, and the lent list as the call ended, read as an outcome
abbrev pub left_with : Result Reply Refusal → Schedule → List Record → Outcome
left_with a s records = outcome_of (record { answer = a; schedule = s }) [] records

-- a listing that is not refused: `n` are all held events, and a lent list with `room` places has room for their records
pub record Fits (s : Schedule) (room n : ℕ) : Type 0 where
  pub unbroken : sound s ≡ true
  pub all : n ≡ s.count
  pub few : n ≤ most_events
  pub fits : n ≤ room

-- and one that is, which leaves every such list
abbrev pub Refuses : Schedule → ℕ → Refusal → Type 0
Refuses s room why = (old : List Record) → length old ≡ room → left_with (Err why) s old ≡ call s (list old)

-- which of them, and the count or the refusal
abbrev pub Counts : Schedule → ℕ → Result ℕ Refusal → Type 0
Counts s room r = MatchResult r (Fits s room) (Refuses s room)
