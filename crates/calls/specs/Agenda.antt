-- The starts and ends that a clock call passes, each one number, in ascending order.
use Rattle.std.specs.Prelude.{◌≡◌, ◌⊎◌, ◌↔◌, ℕ, ◌+◌, ◌*◌, ◌%◌, ◌<◌, ◌≤◌, true, false, List, length, get_or}
use Rattle.rules.specs.declared.Entry.{Entry}
use Rattle.rules.specs.Records.{has, most_events}
use Rattle.rules.specs.Holding.{end_of}
use Rattle.calls.specs.declared.agenda.Taken.{Taken}
use Rattle.calls.specs.Sets.{event_at, set_width}

-- an event begins once and ends once
abbrev pub most_changes : ℕ
most_changes = 2 * most_events

-- one place more, for the end mark
abbrev pub agenda_size : ℕ
agenda_size = most_changes + 1

-- a second has a number for the end and one for the start of each place
abbrev pub second_width : ℕ
second_width = 2 * set_width

-- a change as one number, so that numbers ascend as changes come: by time, ends before starts, then by place
abbrev pub end_at : ℕ → ℕ → ℕ
end_at t i = t * second_width + i

abbrev pub start_at : ℕ → ℕ → ℕ
start_at t i = t * second_width + (set_width + i)

-- the end mark, after every change
abbrev pub nothing : ℕ
nothing = 18446744073709551615

-- x is the start or the end of the event at place i, after the clock and up to the reading; a cancelled event never starts
abbrev pub Change : (clock to : ℕ) → Entry → (i x : ℕ) → Type 0
Change clock to h i x = ((h.cancelled ≡ false) × (clock < h.begins) × (h.begins ≤ to) × (x ≡ start_at h.begins i)) ⊎ ((end_of h ≤ to) × (x ≡ end_at (end_of h) i))

-- x stands in an agenda
abbrev pub Planned : List ℕ → ℕ → Type 0
Planned a x = (j : ℕ) × (j < agenda_size) × (get_or a j 0 ≡ x)

-- the changes of the first n events after the clock and up to the reading, all of them and nothing else, in order; then end marks
pub record Agenda (clock to n : ℕ) (w : List Entry) (a : List ℕ) : Type 0 where
  pub size : length a ≡ agenda_size
  pub ascends : (j k : ℕ) → j ≤ k → k < agenda_size → get_or a j 0 ≤ get_or a k 0
  pub ends : get_or a most_changes 0 ≡ nothing
  pub all : (i : ℕ) → i < n → (x : ℕ) → Change clock to (event_at w i) i x → Planned a x
  pub only : (j : ℕ) → j < agenda_size → (get_or a j 0 ≡ nothing) ⊎ ((i : ℕ) × (i < n) × Change clock to (event_at w i) i (get_or a j 0))

-- numbers in ascending order, and end marks from place m on
pub record Filled (m : ℕ) (a : List ℕ) : Type 0 where
  pub size : length a ≡ agenda_size
  pub ascends : (j k : ℕ) → j ≤ k → k < agenda_size → get_or a j 0 ≤ get_or a k 0
  pub marks : (j : ℕ) → m ≤ j → j < agenda_size → get_or a j 0 ≡ nothing

-- and x put in among them
pub record Inserted (m x : ℕ) (old new : List ℕ) : Type 0 where
  pub filled : Filled (m + 1) new
  pub put : Planned new x
  pub kept : (y : ℕ) → Planned old y → Planned new y
  pub only : (j : ℕ) → j < agenda_size → (get_or new j 0 ≡ x) ⊎ Planned old (get_or new j 0)

-- a change at or behind `from` is not before the bound
abbrev pub Stops : List ℕ → ℕ → ℕ → Type 0
Stops a from bound = (j : ℕ) × (from ≤ j) × (j < agenda_size) × (bound ≤ get_or a j 0)

-- the changes from `from` on that are before the bound: where they end, and the set of their places
pub record TakenTo (a : List ℕ) (from bound : ℕ) (r : Taken) : Type 0 where
  pub onward : from ≤ r.next
  pub inside : r.next < agenda_size
  pub below : (j : ℕ) → from ≤ j → j < r.next → get_or a j 0 < bound
  pub stop : bound ≤ get_or a r.next 0
  pub places : (i : ℕ) → (has r.places i ≡ true) ↔ ((j : ℕ) × (from ≤ j) × (j < r.next) × (get_or a j 0 % set_width ≡ i))
