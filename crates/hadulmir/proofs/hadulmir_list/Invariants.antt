-- Loaded and looked at: 2, 13, or the records of the held events, of which the loop has written the first i. Nothing is stored, since the image is that of its schedule.
use mathlib.Core.Path.{◌≡◌}
use Prim.Native.Nat.{ℕ, ◌≤◌}
use mathlib.Core.List.{List}
use lib.ListN.{length, take}
use Rattle.rules.specs.declared.Entry.{Entry}
use Rattle.rules.specs.Lists.{over}
use Rattle.rules.specs.Bytes.{flat, record_bytes}
use Rattle.rules.specs.Calls.{record_of}
use Rattle.hadulmir.proofs.hadulmir_list.Given as goal

-- the bytes of the record of a held event
abbrev pub recorded : Entry → List ℕ
recorded h = record_bytes (record_of h)

abbrev pub invariant-loop-i : goal.invariant-loop-i
invariant-loop-i l = (l.i ≤ l.n) × (length l.records ≡ length l.initial.records) × (l.records ≡ over (flat recorded (take l.i l.s.entries)) l.initial.records)
