-- A sound schedule has no more events than places.
use Rattle.calls.proofs.Slots.{in_use}
use Rattle.calls.proofs.held.SoundSchedule.events.Goals as goal

pub shared_ref_as_front-result : goal.shared_ref_as_front-result
shared_ref_as_front-result c = (in_use c.args.self.now.schedule c.args.self.now.good).few
