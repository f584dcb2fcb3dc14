-- Held events in their slots, and the schedule that they are with the rest of it.
use Rattle.std.specs.Prelude.{◌≡◌, ℕ, ◌≤◌, true, List, length, take}
use Rattle.rules.specs.declared.Entry.{Entry}
use Rattle.rules.specs.declared.Schedule.{Schedule}
use Rattle.rules.specs.Records.{State, most_events, pad}
use Rattle.rules.specs.Sound.{sound}
use Rattle.calls.specs.declared.held.Head.{Head}
use Rattle.calls.specs.Sets.{blank, event_at}

abbrev pub head_of : Schedule → Head
head_of s = record { clock = s.clock; count = s.count; programs = s.programs }

-- what the rest of a schedule and the slots in use say
abbrev pub slot_state : Head → List Entry → State
slot_state d w = record { clock = d.clock; programs = d.programs; entries = take d.count w }

abbrev pub schedule_of : Head → List Entry → Schedule
schedule_of d w = pad (slot_state d w)

-- n of the slots are in use
pub record InUse (n : ℕ) (w : List Entry) : Type 0 where
  pub few : n ≤ most_events
  pub size : length w ≡ most_events

-- and of those behind them none
pub record Unused (n : ℕ) (w : List Entry) : Type 0 where
  pub used : InUse n w
  pub none : (j : ℕ) → n ≤ j → event_at w j ≡ blank

-- slots that moments can pass over
pub record Ready (d : Head) (w : List Entry) : Type 0 where
  pub used : InUse d.count w
  pub good : sound (schedule_of d w) ≡ true
