-- The promise is the law.
use Rattle.converter.proofs.Cut.{cut}
use Rattle.converter.proofs.cut_lines.Goals as goal

pub returns : goal.returns
returns c = record { cut = cut }
