-- The event, which is all there, and then field by field.
use native.Mathlib.Omega.{arith}
use Rattle.rules.specs.Bytes.{entry_at}
use Rattle.octets.proofs.Fits.{numbered_inside, event_inside}
use Rattle.image.proofs.reading.entry_at.Goals as goal

pub returns : goal.returns
unfolding entry_at
returns c =
    let a = c.args in
    rw (
      c.get_event.ensures,
      event_inside a.at a.b.now (omega arith),
      numbered_inside _ _ _ c.read_at.ensures (omega arith),
      numbered_inside _ _ _ c.read_at-2.ensures (omega arith),
      numbered_inside _ _ _ c.read_at-3.ensures (omega arith),
      c.choice_of.ensures,
      numbered_inside _ _ _ c.read_at-4.ensures (omega arith),
    )
