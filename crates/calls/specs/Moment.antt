-- One moment of a clock call, on slots.
use Rattle.std.specs.Prelude.{◌≡◌, ℕ, ◌+◌, ◌<◌, ◌≤◌, true, false, cond, not, ◌&&◌, List, length}
use Rattle.rules.specs.declared.Entry.{Entry}
use Rattle.rules.specs.Records.{id_of, has, most_rows}
use Rattle.rules.specs.Bytes.{rows_size}
use Rattle.rules.specs.Holding.{holding_at, with_holding, remarked, end_of}
use Rattle.rules.specs.Rows.{rows_at}
use Rattle.calls.specs.declared.held.Head.{Head}
use Rattle.calls.specs.declared.clock.Due.{Due}
use Rattle.calls.specs.declared.clock.Standing.{Standing}
use Rattle.calls.specs.Slots.{slot_state}
use Rattle.calls.specs.Sets.{event_at, mask_at, counting, rank_in, SetOf, Holders, MasksOnly, SameFrom, HoldingsOnly}
use Rattle.calls.specs.Settled.{Settled, Held}
use Rattle.calls.specs.Written.{Written}

-- the rank tells the places of the slots in use apart
abbrev pub Distinct : Head → List Entry → Type 0
Distinct d w = (i j : ℕ) → i < d.count → j < d.count → id_of (event_at w i).event ≡ id_of (event_at w j).event → i ≡ j

-- no two of them hold the same control
abbrev pub OneHolderIn : Head → List Entry → Type 0
OneHolderIn d w = (i j k : ℕ) → i < d.count → j < d.count → has (mask_at w i) k ≡ true → has (mask_at w j) k ≡ true → i ≡ j

-- the events of a set, which hold nothing yet, can begin
pub record CanStart (d : Head) (w : List Entry) (holding starting : ℕ) : Type 0 where
  pub held : Held d w holding
  pub distinct : Distinct d w
  pub settled : Settled (rank_in d.programs w) d.count (mask_at w) (mask_at w)
  pub empty : (i : ℕ) → has starting i ≡ true → (i < d.count) × (mask_at w i ≡ 0)

-- they have begun: what all have now is settled among what they carry and what the others had
pub record Started (d : Head) (starting : ℕ) (old new : List Entry) (after : ℕ) : Type 0 where
  pub masks : MasksOnly old new
  pub behind : SameFrom d.count old new
  pub holders : Holders d.count new after
  pub settled : Settled (rank_in d.programs old) d.count (λ i. cond (has starting i) (event_at old i).event.controls (mask_at old i)) (mask_at new)

-- the events of a set hold nothing any more
pub record Released (ended holding : ℕ) (old new : List Entry) (after : ℕ) : Type 0 where
  pub masks : MasksOnly old new
  pub released : (i : ℕ) → mask_at new i ≡ cond (has ended i) 0 (mask_at old i)
  pub holders : (i : ℕ) → has after i ≡ (has holding i && not (has ended i))

-- an event before moment t: it holds nothing before its start, after its end, or cancelled
pub record Before (t : ℕ) (h : Entry) : Type 0 where
  pub short : h.begins < end_of h
  pub early : t ≤ h.begins → h.held ≡ 0
  pub over : end_of h < t → h.held ≡ 0
  pub stopped : h.cancelled ≡ true → h.held ≡ 0

-- for the events at the places of a set a held second has been counted since the clock, so that another one counts for nothing
abbrev pub Marked : Head → List Entry → ℕ → Type 0
Marked d w counted = (i : ℕ) → i < d.count → has counted i ≡ true → counting (event_at w i) ≡ event_at w i

-- a second like the last one would set no mark
abbrev pub Steady : Head → List Entry → Type 0
Steady d w = (i : ℕ) → i < d.count → remarked (event_at w i) ≡ event_at w i

-- slots in use before moment t, those that begin or end then, and room for the rows
pub record Ahead (d : Head) (w : List Entry) (t : ℕ) (due : Due) (s : Standing) (rows : List ℕ) : Type 0 where
  pub held : Held d w s.holding
  pub distinct : Distinct d w
  pub before : (i : ℕ) → i < d.count → Before t (event_at w i)
  pub apart : OneHolderIn d w
  pub ending : SetOf d.count (λ i. end_of (event_at w i) ≡ t) due.ending
  pub starting : SetOf d.count (λ i. ((event_at w i).begins ≡ t) × ((event_at w i).cancelled ≡ false)) due.starting
  pub counted : Marked d w s.counted
  pub size : length rows ≡ rows_size
  pub room : s.rows + length (rows_at d.programs t (slot_state d w).entries) ≤ most_rows

-- after it: everyone has what the definition says, and the rows are written
pub record Past (d : Head) (old new : List Entry) (t : ℕ) (s : Standing) (rows after : List ℕ) (r : Standing) : Type 0 where
  pub holdings : HoldingsOnly old new
  pub behind : SameFrom d.count old new
  pub holders : Holders d.count new r.holding
  pub settled : (i : ℕ) → i < d.count → event_at new i ≡ with_holding (event_at old i) (holding_at d.programs t (slot_state d old).entries (event_at old i))
  pub counted : Marked d new r.counted
  pub apart : OneHolderIn d new
  pub written : Written rows s.rows after r.rows (rows_at d.programs t (slot_state d old).entries)
