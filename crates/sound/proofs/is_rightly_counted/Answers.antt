-- The code is the definitions.
use mathlib.Core.Path.{refl}
use Rattle.rules.specs.Sound.{counted_since_start, counted_if_held}
use Rattle.sound.proofs.is_rightly_counted.Goals as goal

pub returns : goal.returns
unfolding counted_since_start counted_if_held
returns c = refl
