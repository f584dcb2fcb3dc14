-- Field after field, if there is room.
use mathlib.Core.Path.{refl, sym, ◌∙◌}
use Prim.Native.Nat.{◌+◌}
use native.Mathlib.Omega.{arith}
use Rattle.rules.specs.Records.{id_size, id_of}
use Rattle.rules.specs.Bytes.{big, event_size, event_bytes}
use Rattle.octets.proofs.Fits.{room, no_room, put_event_inside, put_event_outside}
use Rattle.octets.proofs.Writes.{wrote_none, then}
use Rattle.octets.proofs.put_event.Goals as goal

pub returns-then-not-has_room : goal.returns-then-not-has_room
returns-then-not-has_room c = sym (put_event_outside _ _ _ (no_room event_size c.args.at c.args.out.now c.has_room.ensures c.if-not-has_room.true))

pub returns : goal.returns
unfolding big event_bytes
returns c =
    let a = c.args in
    let e = a.e in
    let within = room event_size c.args.at c.args.out.now c.has_room.ensures c.if-not-has_room.false in
    let w₁ = then (wrote_none a.out.now a.at (omega (arith, within))) a.at (omega arith) id_size (id_of e) (omega (arith, within)) c.put_id.ensures in
    let w₂ = then w₁ (a.at + id_size) refl 1 e.program (omega (arith, within)) c.write_at.ensures in
    let w₃ = then w₂ (a.at + (id_size + 1)) refl 4 e.controls (omega (arith, within)) c.write_at-2.ensures in
    let w₄ = then w₃ (a.at + (id_size + 5)) refl 4 e.created (omega (arith, within)) c.write_at-3.ensures in
    let w₅ = then w₄ (a.at + (id_size + 9)) refl 4 e.start (omega (arith, within)) c.write_at-4.ensures in
    let w₆ = then w₅ (a.at + (id_size + 13)) refl 4 e.duration (omega (arith, within)) c.write_at-5.ensures in
    let w₇ = then w₆ (a.at + (id_size + 17)) refl 2 e.randomize_start (omega (arith, within)) c.write_at-6.ensures in
    let w₈ = then w₇ (a.at + (id_size + 19)) refl 2 e.randomize_duration (omega (arith, within)) c.write_at-7.ensures in
    let w₉ = then w₈ (a.at + (id_size + 21)) refl 2 e.start_draw (omega (arith, within)) c.write_at-8.ensures in
    let w = then w₉ (a.at + (id_size + 23)) refl 2 e.duration_draw (omega (arith, within)) c.write_at-9.ensures in
    w.is ∙ sym (put_event_inside a.at a.out.now e within)
