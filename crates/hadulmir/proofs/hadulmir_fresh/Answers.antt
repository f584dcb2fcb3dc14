-- The buffer has an image's length, or it is left alone.
use mathlib.Core.Path.{sym, ◌∙◌}
use Rattle.rules.specs.Face.{face_fresh}
use Rattle.hadulmir.proofs.Facing.{written_as}
use Rattle.hadulmir.proofs.hadulmir_fresh.Goals as goal

pub returns-then-write : goal.returns-then-write
unfolding face_fresh
returns-then-write c =
    let p = written_as c.fresh.result c.args.image.now c.write.ensures in
    rw (sym p.fits ∙ c.if-write.true, p.leaves, c.if-write.true, c.fresh.ensures)

pub returns : goal.returns
unfolding face_fresh
returns c =
    let p = written_as c.fresh.result c.args.image.now c.write.ensures in
    rw (sym p.fits ∙ c.if-write.false, p.leaves, c.if-write.false, c.negative.ensures)
