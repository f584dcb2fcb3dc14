-- 2, or what the call does on a sound schedule.
use Rattle.calls.proofs.Returned.{breaks}
use Rattle.calls.proofs.add_program.Goals as goal

pub returns-then-not-is_sound : goal.returns-then-not-is_sound
returns-then-not-is_sound c = breaks _ c.is_sound.ensures c.if-not-is_sound.true c.refused.ensures
