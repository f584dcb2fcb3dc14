-- Loaded, added to, stored.
use mathlib.Core.Path.{refl}
use mathlib.Core.List.{[]}
use Rattle.hadulmir.proofs.Facing.{unread, may_store, stored_alone}
use Rattle.hadulmir.proofs.hadulmir_add_program.Goals as goal

pub returns-in_default : goal.returns-in_default
returns-in_default c = unread _ c.read.ensures c.in_default.is _ [] c.negative.ensures

pub finish-requires : goal.finish-requires
finish-requires c =
    may_store _ c.read.ensures c.in-Ok.is c.add_program.result _ c.add_program.ensures

pub returns : goal.returns
returns c =
    stored_alone _ c.read.ensures c.in-Ok.is c.add_program.result _ c.add_program.ensures refl
    c.finish.ensures
