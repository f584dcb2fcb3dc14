-- A refusal has a number, any other answer 0.
use Rattle.rules.proofs.FaceLaws.{some_number}
use Rattle.hadulmir.specs.Outcomes.{returned_for}
use Rattle.hadulmir.proofs.answers.returned.Goals as goal

pub returns-in-Ok : goal.returns-in-Ok
unfolding returned_for
returns-in-Ok c = rw c.in-Ok.is c.shown.ensures

pub returns-in-Err : goal.returns-in-Err
unfolding returned_for
returns-in-Err c = rw (c.in-Err.is, some_number c.in-Err.refusal) c.negative.ensures
