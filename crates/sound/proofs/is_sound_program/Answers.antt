-- A place in use has a primacy that may be used, any other is zero.
use Rattle.rules.specs.Sound.{sound_program}
use Rattle.sound.proofs.Primacies.{told}
use Rattle.sound.proofs.is_sound_program.Goals as goal

pub returns-then-p : goal.returns-then-p
unfolding sound_program
returns-then-p c = rw (c.if-p.true, c.eq.ensures, c.from.ensures) (told (c.args.p.primacy))

pub returns : goal.returns
unfolding sound_program
returns c = rw c.if-p.false
