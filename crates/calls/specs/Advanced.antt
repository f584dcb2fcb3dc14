-- What the core of the clock call leaves.
use Rattle.std.specs.Prelude.{◌≡◌, ℕ, ◌*◌, ◌≤◌, Bool, true, false, cond, List, length, take, Result}
use Rattle.rules.specs.declared.Entry.{Entry}
use Rattle.rules.specs.declared.Schedule.{Schedule}
use Rattle.rules.specs.Records.{view, pad}
use Rattle.rules.specs.Lists.{keep}
use Rattle.rules.specs.Bytes.{bytes, row_size, rows_size}
use Rattle.rules.specs.Holding.{end_of}
use Rattle.rules.specs.Moments.{lasts, passed}
use Rattle.rules.specs.Calls.{number_of, value_of, counted, set_clock, call}
use Rattle.rules.specs.declared.Refusal.{Refusal}
use Rattle.rules.specs.declared.Reply.{Reply}
use Rattle.calls.specs.declared.held.Head.{Head}
use Rattle.calls.specs.declared.clock.Standing.{Standing}
use Rattle.calls.specs.Slots.{slot_state}
use Rattle.calls.specs.Sets.{event_at, SetOf, SameFrom, HoldingsOnly, SecondCounted}

-- the schedule at the reading, how many rows there are, and their bytes at the front of the buffer
pub record Advanced (s : Schedule) (reading : ℕ) (buffer : List ℕ) (next : Schedule) (count : ℕ) : Type 0 where
  pub schedule : next ≡ pad (passed (view s) reading).state
  pub rows : count ≡ length (passed (view s) reading).rows
  pub written : take (row_size * count) buffer ≡ bytes (passed (view s) reading).rows
  pub size : length buffer ≡ rows_size

-- the second after the clock is counted for those that hold something, if it is quiet
pub record Opened (quiet : Bool) (holding : ℕ) (old new : List Entry) (r : Standing) : Type 0 where
  pub counts : quiet ≡ true → SecondCounted holding old new
  pub stays : quiet ≡ false → new ≡ old
  pub standing : r ≡ record { holding = holding; counted = cond quiet holding 0; rows = 0 }

-- the moments up to the reading, passed with nothing dropped: what the slots hold then, who has ended, how many rows there are, and their bytes at the front of the buffer
pub record Passes (d : Head) (w : List Entry) (reading : ℕ) (buffer : List ℕ) (ended count : ℕ) (new : List Entry) : Type 0 where
  pub holdings : HoldingsOnly w new
  pub behind : SameFrom d.count w new
  pub over : SetOf d.count (λ i. end_of (event_at new i) ≤ reading) ended
  pub state : (passed (slot_state d w) reading).state ≡ record { clock = reading; programs = d.programs; entries = keep (lasts reading) (slot_state d new).entries }
  pub rows : count ≡ length (passed (slot_state d w) reading).rows
  pub written : take (row_size * count) buffer ≡ bytes (passed (slot_state d w) reading).rows
  pub size : length buffer ≡ rows_size

-- what a clock call in place gives and leaves: what it would with any buffer that all rows fit, and the bytes of the rows at the front of its own
pub record Reads (s : Schedule) (reading : ℕ) (a : Result Reply Refusal) (next : Schedule) (rows : List ℕ) : Type 0 where
  pub long : length rows ≡ rows_size
  pub number : (b : List ℕ) → length b ≡ rows_size → number_of a ≡ (call s (set_clock reading b)).number
  pub value : (b : List ℕ) → length b ≡ rows_size → value_of a ≡ (call s (set_clock reading b)).value
  pub state : (b : List ℕ) → length b ≡ rows_size → next ≡ (call s (set_clock reading b)).state
  pub written : (b : List ℕ) → length b ≡ rows_size → let o = call s (set_clock reading b) in take (row_size * counted o.value) rows ≡ take (row_size * counted o.value) o.bytes
