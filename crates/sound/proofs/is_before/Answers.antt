use Rattle.std.proofs.Common.{rules}
use Rattle.rules.specs.Records.{cut}
use Rattle.sound.proofs.is_before.Goals as goal

pub returns : goal.returns
unfolding cut
returns c = search rules
