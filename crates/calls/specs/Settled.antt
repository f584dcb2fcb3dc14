-- Who keeps which control, over claims and ranks by place: claims settled at once, and a claim that comes in where others are settled.
use Rattle.std.specs.Prelude.{◌≡◌, ◌↔◌, ℕ, ◌<◌, true, false, cond, List, eqb}
use Rattle.rules.specs.declared.Entry.{Entry}
use Rattle.rules.specs.Records.{has, cut}
use Rattle.rules.specs.Holding.{Rank, better}
use Rattle.calls.specs.declared.held.Head.{Head}
use Rattle.calls.specs.Slots.{InUse}
use Rattle.calls.specs.Sets.{event_at, mask_at, rank_in, Numbered, Holders, MasksOnly, SameFrom}

-- of the first n places none that has control k is better than i
abbrev pub Unbeaten : (ℕ → Rank) → ℕ → (ℕ → ℕ) → ℕ → ℕ → Type 0
Unbeaten rank n masks k i = (o : ℕ) → o < n → has (masks o) k ≡ true → better (rank o) (rank i) ≡ false

-- each of the first n places has of its claim what no better one claims
pub record Settled (rank : ℕ → Rank) (n : ℕ) (claims kept : ℕ → ℕ) : Type 0 where
  pub each : (i : ℕ) → i < n → (k : ℕ) → (has (kept i) k ≡ true) ↔ ((has (claims i) k ≡ true) × Unbeaten rank n claims k i)

-- the claims with another one at place i
abbrev pub with_claim : ℕ → ℕ → (ℕ → ℕ) → ℕ → ℕ
with_claim i m claims j = cond (eqb j i) m (claims j)

-- place i claims m of what the others have: a better one keeps what it has, any other loses what is claimed, and place i gets what no better one has
pub record Contends (rank : ℕ → Rank) (n i m : ℕ) (old new : ℕ → ℕ) : Type 0 where
  pub others : (j : ℕ) → j < n → (j ≡ i → ⊥) → new j ≡ cond (better (rank j) (rank i)) (old j) (cut (old j) m)
  pub own : (k : ℕ) → (has (new i) k ≡ true) ↔ ((has m k ≡ true) × Unbeaten rank n old k i)

-- slots in use whose events have programs, and the set of those that hold something
pub record Held (d : Head) (w : List Entry) (holding : ℕ) : Type 0 where
  pub used : InUse d.count w
  pub numbered : Numbered d.count w
  pub holders : Holders d.count w holding

-- the event at place i, which holds nothing yet, can contend
pub record Comes (d : Head) (w : List Entry) (holding i : ℕ) : Type 0 where
  pub held : Held d w holding
  pub below : i < d.count
  pub empty : mask_at w i ≡ 0

-- it has contended for all that it carries
pub record Contended (d : Head) (i : ℕ) (old new : List Entry) (after : ℕ) : Type 0 where
  pub masks : MasksOnly old new
  pub behind : SameFrom d.count old new
  pub holders : Holders d.count new after
  pub contends : Contends (rank_in d.programs old) d.count i (event_at old i).event.controls (mask_at old) (mask_at new)
