-- Sets of places, as bits of one number, and the events at places of the slots.
use Rattle.std.specs.Prelude.{◌≡◌, ◌↔◌, ℕ, zero, suc, ◌<◌, ◌≤◌, Bool, true, false, not, cond, ◌||◌, List, [], ◌∷◌, ◌++◌, map, eqb, length, get_or}
use Rattle.rules.specs.declared.Entry.{Entry}
use Rattle.rules.specs.declared.Program.{Program}
use Rattle.rules.specs.Lists.{keep}
use Rattle.rules.specs.Records.{id_of, has, no_choice, most_events, most_programs}
use Rattle.rules.specs.Holding.{Rank, rank_of, Holding, with_holding}
use Rattle.rules.specs.Rows.{end_code, Row}
use Rattle.calls.specs.declared.clock.Kind.{Kind}
use Rattle.calls.specs.declared.clock.Kind.TheVariants.{Ended, Superseded, Started}

-- what stands past the end of a list: an event place that is not in use, its id as halves
abbrev pub blank : Entry
blank =
    record {
      event = record {
        id = record { high = 0; low = 0 };
        program = 0;
        controls = 0;
        created = 0;
        start = 0;
        duration = 0;
        randomize_start = 0;
        randomize_duration = 0;
        start_draw = 0;
        duration_draw = 0;
      };
      begins = 0;
      held = 0;
      cancelled = false;
      choice = no_choice;
    }

-- the event at a place, what it holds, and its rank
abbrev pub event_at : List Entry → ℕ → Entry
event_at w i = get_or w i blank

abbrev pub mask_at : List Entry → ℕ → ℕ
mask_at w i = (event_at w i).held

-- the event with another mask
abbrev pub masked : Entry → ℕ → Entry
masked h mask = record { event = h.event; begins = h.begins; held = mask; cancelled = h.cancelled; choice = h.choice }

-- the event with a held second counted, by its choice
abbrev pub counting : Entry → Entry
counting h =
    record {
      event = h.event;
      begins = h.begins;
      held = h.held;
      cancelled = h.cancelled;
      choice = record { out = h.choice.out; was_in = h.choice.was_in || not h.choice.out; was_out = h.choice.was_out || h.choice.out };
    }

-- the event with a choice made
abbrev pub chosen : Entry → Bool → Entry
chosen h out =
    record {
      event = h.event;
      begins = h.begins;
      held = h.held;
      cancelled = h.cancelled;
      choice = record { out = out; was_in = h.choice.was_in; was_out = h.choice.was_out };
    }

-- what it carries from one moment to the next
abbrev pub holding_of : Entry → Holding
holding_of h = record { held = h.held; was_in = h.choice.was_in; was_out = h.choice.was_out }

abbrev pub rank_in : List Program → List Entry → ℕ → Rank
rank_in ps w i = rank_of ps (event_at w i).event

-- the events at the first n places have programs
abbrev pub Numbered : ℕ → List Entry → Type 0
Numbered n w = (i : ℕ) → i < n → (event_at w i).event.program < most_programs

-- how many places a set can have
abbrev pub set_width : ℕ
set_width = 64

-- the places before n
unfoldable pub places_to : ℕ → List ℕ
places_to zero = []
places_to (suc n) = places_to n ++ (n ∷ [])

-- the lowest place of a set, and the set without it
pub record Lowest (set place rest : ℕ) : Type 0 where
  pub here : has set place ≡ true
  pub first : (i : ℕ) → i < place → has set i ≡ false
  pub gone : has rest place ≡ false
  pub others : (i : ℕ) → (i ≡ place → ⊥) → has rest i ≡ has set i
  pub less : rest < set

-- a set is that of those of the first n places that have a property
abbrev pub SetOf : ℕ → (ℕ → Type 0) → ℕ → Type 0
SetOf n P set = (i : ℕ) → (has set i ≡ true) ↔ ((i < n) × P i)

-- the set of those that hold something
abbrev pub Holders : ℕ → List Entry → ℕ → Type 0
Holders n w set = SetOf n (λ i. mask_at w i ≡ 0 → ⊥) set

-- the event at place i has another mask, and nothing else has changed
pub record Masked (i mask : ℕ) (old new : List Entry) : Type 0 where
  pub size : length new ≡ most_events
  pub here : event_at new i ≡ masked (event_at old i) mask
  pub others : (j : ℕ) → (j ≡ i → ⊥) → event_at new j ≡ event_at old j

-- place i is in a set if its mask is not 0, and the others are as before
pub record Kept (i mask before after : ℕ) : Type 0 where
  pub each : (j : ℕ) → has after j ≡ cond (eqb j i) (not (eqb mask 0)) (has before j)

-- held masks have changed, and nothing else
pub record MasksOnly (old new : List Entry) : Type 0 where
  pub size : length new ≡ most_events
  pub each : (j : ℕ) → event_at new j ≡ masked (event_at old j) (mask_at new j)

-- from place n on nothing has changed
abbrev pub SameFrom : ℕ → List Entry → List Entry → Type 0
SameFrom n old new = (j : ℕ) → n ≤ j → event_at new j ≡ event_at old j

-- what events carry from one moment to the next has changed, and nothing else
pub record HoldingsOnly (old new : List Entry) : Type 0 where
  pub size : length new ≡ most_events
  pub each : (j : ℕ) → event_at new j ≡ with_holding (event_at old j) (holding_of (event_at new j))

-- a held second is counted for the events at the places of a set
pub record SecondCounted (set : ℕ) (old new : List Entry) : Type 0 where
  pub size : length new ≡ most_events
  pub each : (j : ℕ) → event_at new j ≡ cond (has set j) (counting (event_at old j)) (event_at old j)

-- a kind of row as a number
abbrev pub kind_number : Kind → ℕ
kind_number Ended = 3
kind_number Superseded = 7
kind_number Started = 2

-- the code that an event gives with a kind of row: 3 stands for all codes of an end
abbrev pub kind_code : ℕ → Entry → ℕ
kind_code kind h = cond (eqb kind 3) (end_code h.choice) kind

-- the rows of one kind of the events at the places of a set, by ascending place
abbrev pub set_rows : ℕ → ℕ → List Entry → ℕ → List Row
set_rows t kind w set = map (λ i. record { time = t; id = id_of (event_at w i).event; code = kind_code kind (event_at w i) }) (keep (has set) (places_to most_events))
