-- Loaded, moved on, stored; the rows are those that the call left.
use mathlib.Core.Path.{refl}
use Rattle.hadulmir.proofs.Facing.{formed_as, unread, small, stored}
use Rattle.hadulmir.proofs.hadulmir_set_clock.Goals as goal

pub returns-in_default : goal.returns-in_default
returns-in_default c =
    let a = c.args in
    unread a.image.now c.read.ensures c.in_default.is _ a.rows.now c.negative.ensures

pub finish-requires : goal.finish-requires
finish-requires c =
    let a = c.args in
    small (formed_as a.image.now c.read.ensures c.in-Ok.is) c.set_clock.result _ c.set_clock.ensures

pub returns : goal.returns
returns c =
    let a = c.args in
    let f = formed_as a.image.now c.read.ensures c.in-Ok.is in
    stored f _ a.rows.now c.set_clock.result c.set_clock.ensures refl refl refl c.finish.ensures
