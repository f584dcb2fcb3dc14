-- The tests are those of `imaged`, in its order.
use Rattle.hadulmir.specs.Outcomes.{load_outcome}
use Rattle.hadulmir.proofs.Facing.{formed_as, unformed, is_imaged}
use Rattle.hadulmir.proofs.load.Goals as goal

pub returns-in-Err : goal.returns-in-Err
unfolding load_outcome
returns-in-Err c = let u = unformed c.args.b.now c.read.ensures c.in-Err.is in rw (u.0, u.1)

pub returns-then-is_sound : goal.returns-then-is_sound
unfolding load_outcome
returns-then-is_sound c =
    let f = formed_as c.args.b.now c.read.ensures c.in-Ok.is in
    rw (is_imaged f c.is_sound.ensures, c.if-is_sound.true, f.schedule, c.from.ensures)

pub returns : goal.returns
unfolding load_outcome
returns c =
    let f = formed_as c.args.b.now c.read.ensures c.in-Ok.is in
    rw (is_imaged f c.is_sound.ensures, c.if-is_sound.false) c.no_image.ensures
