-- A listed record that there is room for is written, and any other is not.
use mathlib.Core.Path.{◌≡◌}
use Prim.Native.Nat.{ℕ, ◌+◌, ◌<◌, ◌≤◌}
use mathlib.Core.List.{List}
use borrow.Author.Tests.{le-leb, lt-leb}
use lib.ListN.{length}
use Rattle.rules.specs.declared.Record.{Record}
use Rattle.rules.specs.Lists.{over_at}
use Rattle.rules.specs.Bytes.{record_size, record_bytes}
use Rattle.image.specs.Exchange.{put_record}

module _ (at : ℕ) (r : Record) (l : List ℕ) where
  pub record_inside : at + record_size ≤ length l → put_record at r l ≡ over_at at (record_bytes r) l
  unfolding put_record
  record_inside h = rw (le-leb (at + record_size) (length l) h)

  pub record_outside : length l < at + record_size → put_record at r l ≡ l
  unfolding put_record
  record_outside h = rw (lt-leb (at + record_size) (length l) h)
