-- Field by field.
use native.Mathlib.Omega.{arith}
use Rattle.rules.specs.Image.{program_from}
use Rattle.octets.proofs.Fits.{numbered_inside}
use Rattle.image.proofs.reading.program_at.Goals as goal

pub returns : goal.returns
unfolding program_from
returns c =
    let a = c.args in
    rw (
      numbered_inside _ _ _ c.read_at.ensures (omega arith),
      numbered_inside _ _ _ c.read_at-2.ensures (omega arith),
      numbered_inside _ _ _ c.read_at-3.ensures (omega arith),
    )
