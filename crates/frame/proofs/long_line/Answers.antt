-- No kind asks for more pairs than an event.
use Rattle.rules.specs.Records.{id_size}
use Rattle.frame.proofs.ByKind.{long_line}
use Rattle.frame.proofs.long_line.Goals as goal

pub returns : goal.returns
returns c = long_line id_size c.args.line.now
