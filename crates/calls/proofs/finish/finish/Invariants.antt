-- The loop has looked at the first i slots.
use mathlib.Core.Path.{◌≡◌}
use Prim.Native.Nat.{◌≤◌, ◌<◌, ℕ}
use mathlib.Core.Bool.{not}
use mathlib.Core.List.{List, map}
use lib.ListN.{length, take}
use Rattle.rules.specs.declared.Entry.{Entry}
use Rattle.rules.specs.Lists.{keep}
use Rattle.rules.specs.Records.{has, most_events}
use Rattle.calls.specs.Sets.{blank, event_at, places_to}
use Rattle.calls.proofs.finish.finish.Given as goal

-- The events that are not in a set come to the front, one by one; behind them none is in use up to those not looked at yet, which are as they were.
-- those of the first d that stay
abbrev pub staying : ℕ → ℕ → List Entry → List Entry
staying ended d w = map (event_at w) (keep (λ i. not (has ended i)) (places_to d))

-- after d slots, of which k stay
pub record ToFront (ended d : ℕ) (old new : List Entry) (k : ℕ) : Type 0 where
  pub size : length new ≡ most_events
  pub fewer : k ≤ d
  pub front : take k new ≡ staying ended d old
  pub free : (j : ℕ) → k ≤ j → j < d → event_at new j ≡ blank
  pub rest : (j : ℕ) → d ≤ j → event_at new j ≡ event_at old j

-- The function.
abbrev pub invariant-loop-i : goal.invariant-loop-i
invariant-loop-i l = (l.i ≤ l.n) × ToFront l.ended l.i l.initial.slots l.slots l.k
