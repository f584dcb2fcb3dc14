-- Answer by answer; a count is small.
use native.Mathlib.Omega.{arith}
use Rattle.hadulmir.proofs.answers.shown.Goals as goal

pub overflow_cast-result-in-Count : goal.overflow_cast-result-in-Count
overflow_cast-result-in-Count c = omega (arith, rw c.in-Count.is at c.requires)

pub returns-in-Default : goal.returns-in-Default
returns-in-Default c = rw c.in-Default.is
