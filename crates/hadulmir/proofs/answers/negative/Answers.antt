-- The number is not 0, so what it leaves of 2 ^ 32 fits.
use borrow.Author.Rules.{rules}
use Rattle.hadulmir.proofs.answers.negative.Goals as goal

pub returns : goal.returns
returns c = search rules
