-- The code is the definition; dividing by 1 changes nothing.
use mathlib.Core.Path.{◌≡◌}
use Prim.Native.Nat.{◌/◌}
use native.Mathlib.Omega.{arith}
use Rattle.rules.specs.Records.{has}
use Rattle.image.proofs.reading.choice_of.Goals as goal

pub returns : goal.returns
unfolding has
returns c = let z : c.args.b / 1 ≡ c.args.b = omega arith in rw z
