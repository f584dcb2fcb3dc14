-- The entry, and then the earliest start, if there is room.
use mathlib.Core.Path.{sym, ◌∙◌}
use Prim.Native.Nat.{◌+◌}
use native.Mathlib.Omega.{arith}
use Rattle.rules.specs.Bytes.{entry_size, record_size, entry_bytes, record_bytes}
use Rattle.rules.proofs.Entries.{entry_size_lem}
use Rattle.octets.proofs.Fits.{room, no_room}
use Rattle.octets.proofs.Writes.{wrote_none, also, then}
use Rattle.image.proofs.Listed.{record_inside, record_outside}
use Rattle.image.proofs.put_record.Goals as goal

pub returns-then-has_room : goal.returns-then-has_room
unfolding record_bytes
returns-then-has_room c =
    let a = c.args in
    let l = a.out.now in
    let within = room record_size a.at l c.has_room.ensures c.if-has_room.true in
    let size = entry_size_lem a.r.entry in
    let w = also (wrote_none l a.at (omega (arith, within))) a.at (omega arith) (entry_bytes a.r.entry) (omega (arith, within)) c.put.ensures in
    (then w (a.at + entry_size) (omega (arith, size)) 8 a.r.earliest (omega (arith, within)) c.write_at.ensures).is
    ∙ sym (record_inside a.at a.r l within)

pub returns-else-has_room : goal.returns-else-has_room
returns-else-has_room c = let a = c.args in sym (record_outside a.at a.r a.out.now (no_room record_size a.at a.out.now c.has_room.ensures c.if-has_room.false))
