-- The event, and then field after field.
use mathlib.Core.Path.{◌≡◌, refl}
use Prim.Native.Nat.{◌+◌, ◌*◌, ◌%◌, ◌≤◌}
use mir.Val.{bool_byte}
use native.Mathlib.Omega.{arith}
use borrow.Author.Tests.{leb-true}
use lib.ListN.{length}
use Rattle.rules.specs.declared.Choice.{Choice}
use Rattle.rules.specs.Bytes.{big, event_size, event_bytes, entry_size, mark_at, choice_at, choice_byte, entry_bytes}
use Rattle.rules.proofs.Entries.{choice_small}
use Rattle.octets.proofs.Writes.{wrote_none, then, then_event}
use Rattle.image.proofs.InRows.{mark_byte}
use Rattle.image.proofs.writing.EntryPart.put.Goals as goal

-- the byte of a choice is one
choice-in-byte : (c : Choice) → choice_byte c % 256 ≡ choice_byte c
choice-in-byte c = omega (arith, leb-true (0 * 256 + choice_byte c) 7 (choice_small c))

pub returns : goal.returns
unfolding big event_bytes entry_bytes
returns c =
    let a = c.args in
    let e = a.self in
    let h : a.at + entry_size ≤ length a.out.now = c.requires in
    let w₀ = then_event (wrote_none a.out.now a.at (omega arith)) a.at (omega arith) e.event (omega arith) c.put_event.ensures in
    let w₁ = then w₀ (a.at + event_size) refl 8 e.begins (omega arith) c.write_at.ensures in
    let w₂ = then w₁ (a.at + (event_size + 8)) refl 4 e.held (omega arith) c.write_at-2.ensures in
    let w₃ = then w₂ (a.at + mark_at) refl 1 (bool_byte e.cancelled) (omega arith) c.write_at-3.ensures in
    let w₄ = then w₃ (a.at + choice_at) refl 1 (choice_byte e.choice) (omega arith) (rw c.choice_byte.ensures at c.write_at-4.ensures) in
    rw (mark_byte, choice-in-byte) at w₄.is
