-- The loop has written the first i records.
use mathlib.Core.Path.{◌≡◌}
use Prim.Native.Nat.{◌≤◌}
use mathlib.Core.List.{◌++◌}
use lib.ListN.{length, take, drop}
use Rattle.rules.specs.Records.{most_events}
use Rattle.listing.specs.Listed.{no_records}
use Rattle.listing.proofs.Recorded.{held}
use Rattle.listing.proofs.records.records_of.Given as goal

abbrev pub invariant-loop-i : goal.invariant-loop-i
invariant-loop-i l = (l.i ≤ l.n) × (l.n ≤ most_events) × (length l.s.entries ≡ most_events) × (length l.records ≡ most_events) × (l.records ≡ take l.i (held l.s) ++ drop l.i no_records)
