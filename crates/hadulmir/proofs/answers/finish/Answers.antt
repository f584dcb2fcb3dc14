-- A refused call is not stored; an accepted one is, since the buffer has an image's length.
use mathlib.Core.Path.{◌∙◌}
use borrow.Author.Tests.{eq-eqb}
use Rattle.rules.proofs.FaceLaws.{some_number}
use Rattle.hadulmir.specs.Outcomes.{finished, returned_for}
use Rattle.hadulmir.proofs.Facing.{written_as}
use Rattle.hadulmir.proofs.answers.finish.Goals as goal

pub returns-in-Ok : goal.returns-in-Ok
unfolding finished returned_for
returns-in-Ok c =
    let p = written_as c.args.a.schedule c.args.image.now c.write.ensures in
    let fits = p.fits ∙ eq-eqb _ _ c.requires.size in
    rw (c.in-Ok.is, c.shown.ensures, p.leaves, fits)

pub returns-in-Err : goal.returns-in-Err
unfolding finished returned_for
returns-in-Err c = rw (c.in-Err.is, some_number c.in-Err.refused, c.negative.ensures)
