-- Field by field, if all are there.
use mathlib.Core.Path.{sym, ◌∙◌}
use native.Mathlib.Omega.{arith}
use Rattle.rules.specs.Bytes.{event_size, event_in}
use Rattle.octets.proofs.Fits.{room, no_room, numbered_inside, id_inside, event_inside, event_outside}
use Rattle.octets.proofs.get_event.Goals as goal

pub returns-then-not-has_room : goal.returns-then-not-has_room
returns-then-not-has_room c = c.none.ensures ∙ sym (event_outside _ _ (no_room event_size c.args.at c.args.b.now c.has_room.ensures c.if-not-has_room.true))

pub returns : goal.returns
unfolding event_in
returns c =
    let a = c.args in
    let within = room event_size c.args.at c.args.b.now c.has_room.ensures c.if-not-has_room.false in
    rw (
      event_inside a.at a.b.now within,
      c.get_id.ensures,
      id_inside a.at a.b.now (omega (arith, within)),
      numbered_inside _ _ _ c.read_at.ensures (omega (arith, within)),
      numbered_inside _ _ _ c.read_at-2.ensures (omega (arith, within)),
      numbered_inside _ _ _ c.read_at-3.ensures (omega (arith, within)),
      numbered_inside _ _ _ c.read_at-4.ensures (omega (arith, within)),
      numbered_inside _ _ _ c.read_at-5.ensures (omega (arith, within)),
      numbered_inside _ _ _ c.read_at-6.ensures (omega (arith, within)),
      numbered_inside _ _ _ c.read_at-7.ensures (omega (arith, within)),
      numbered_inside _ _ _ c.read_at-8.ensures (omega (arith, within)),
      numbered_inside _ _ _ c.read_at-9.ensures (omega (arith, within)),
    )
