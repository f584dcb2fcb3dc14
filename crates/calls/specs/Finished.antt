-- The slots after the last moment.
use Rattle.std.specs.Prelude.{◌≡◌, ℕ, not, List, map, take}
use Rattle.rules.specs.declared.Entry.{Entry}
use Rattle.rules.specs.Lists.{keep}
use Rattle.rules.specs.Records.{has}
use Rattle.calls.specs.Slots.{Unused}
use Rattle.calls.specs.Sets.{event_at, places_to}

-- of the first n slots those whose places are not in a set have come to the front, and no other is in use
pub record Finished (n ended : ℕ) (old new : List Entry) (k : ℕ) : Type 0 where
  pub unused : Unused k new
  pub lasting : take k new ≡ map (event_at old) (keep (λ i. not (has ended i)) (places_to n))
