-- Where an id stands among entries by ascending id, or would stand, and whether it is held.
use Rattle.std.specs.Prelude.{◌≡◌, List, ◌∷◌, ◌++◌, ℕ, ◌+◌, ◌<◌, ◌≤◌, length, get_or, take, drop, Result, MatchResult}
use Rattle.rules.specs.declared.Entry.{Entry}
use Rattle.rules.specs.Records.{most_events, no_entry}
use Rattle.rules.specs.Calls.{entry_id}

-- the entries before the place have smaller ids, and the one in it has not
pub record PlaceOf (hs : List Entry) (i at : ℕ) : Type 0 where
  pub within : at ≤ length hs
  pub below : (k : ℕ) → k < at → entry_id (get_or hs k no_entry) < i
  pub from : at < length hs → i ≤ entry_id (get_or hs at no_entry)

-- the entry in the place bears the id
pub record Bears (hs : List Entry) (i at : ℕ) : Type 0 where
  pub placed : PlaceOf hs i at
  pub within : at < length hs
  pub same : entry_id (get_or hs at no_entry) ≡ i

-- no entry bears it, and one with the id would stand there
pub record Free (hs : List Entry) (i at : ℕ) : Type 0 where
  pub placed : PlaceOf hs i at
  pub none : at < length hs → entry_id (get_or hs at no_entry) ≡ i → ⊥

-- whether an id is held, and its place
abbrev pub Found : List Entry → ℕ → Result ℕ ℕ → Type 0
Found hs i r = MatchResult r (Bears hs i) (Free hs i)

-- a slot more can be put in at a place among the n in use
pub record CanOpen (at n : ℕ) (w : List Entry) : Type 0 where
  pub within : at ≤ n
  pub room : n < most_events
  pub size : length w ≡ most_events

-- a list with one more put in at a place among the first n: those from there on have moved up by one
abbrev pub widened : {A : Type 0} → List A → ℕ → ℕ → A → List A
widened w n at x = take at w ++ (x ∷ drop at (take n w)) ++ drop (n + 1) w
