-- The bit is shifted down.
use borrow.Author.Rules.{rules}
use Rattle.rules.specs.Records.{has}
use Rattle.calls.proofs.bits.contains.Goals as goal

pub returns : goal.returns
unfolding has
returns c = search rules
