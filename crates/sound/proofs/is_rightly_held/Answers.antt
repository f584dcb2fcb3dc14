-- The code is the definitions.
use mathlib.Core.Path.{refl}
use Rattle.rules.specs.Records.{cut}
use Rattle.rules.specs.Sound.{carried, held_since_start, none_if_cancelled}
use Rattle.sound.proofs.is_rightly_held.Goals as goal

pub returns : goal.returns
unfolding cut carried held_since_start none_if_cancelled
returns c = refl
