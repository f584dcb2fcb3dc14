-- 2, or what the call does on a sound schedule.
use Rattle.calls.proofs.Returned.{breaks}
use Rattle.calls.proofs.set_clock.Goals as goal

pub returns : goal.returns
returns c = breaks _ c.is_sound.ensures c.if-is_sound.false c.refused.ensures

pub set_clock-requires : goal.set_clock-requires
set_clock-requires c = cc
