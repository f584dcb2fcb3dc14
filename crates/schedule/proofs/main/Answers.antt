-- A fresh schedule is sound, and the room is that of the array.
use native.Mathlib.Omega.{arith}
use Rattle.rules.specs.Records.{fresh}
use Rattle.rules.proofs.SoundState.{sound_pad}
use Rattle.rules.proofs.SoundKept.{sound_fresh}
use Rattle.schedule.proofs.main.Goals as goal

pub invariant_of-scheduler : goal.invariant_of-scheduler
invariant_of-scheduler c = record { kept_rules = rw c.fresh.ensures (sound_pad fresh sound_fresh); room = omega arith }
