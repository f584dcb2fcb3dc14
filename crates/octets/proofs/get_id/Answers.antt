-- Half by half, if all its bytes are there.
use mathlib.Core.Path.{sym, ap, ap₂, ◌∙◌}
use native.Mathlib.Omega.{arith}
use Rattle.rules.specs.Records.{id_size, halves, id_from}
use Rattle.octets.proofs.Fits.{room, no_room, numbered_inside, id_inside, id_outside}
use Rattle.octets.proofs.Joins.{id_read}
use Rattle.octets.proofs.get_id.Goals as goal

pub returns-then-not-has_room : goal.returns-then-not-has_room
returns-then-not-has_room c = c.of.ensures ∙ sym (id_outside _ _ (no_room id_size c.args.at c.args.b.now c.has_room.ensures c.if-not-has_room.true))

pub returns : goal.returns
returns c =
    let a = c.args in
    let l = a.b.now in
    let within = room id_size a.at l c.has_room.ensures c.if-not-has_room.false in
    let high = numbered_inside _ _ _ c.read_at-high.ensures (omega (arith, within)) in
    let low = numbered_inside _ _ _ c.read_at-low.ensures (omega (arith, within)) in
    c.of-2.ensures ∙ ap id_from (ap₂ halves high low) ∙ id_read a.at l ∙ sym (id_inside a.at l within)
