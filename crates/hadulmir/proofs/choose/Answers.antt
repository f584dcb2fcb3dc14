-- Loaded, the choice made, stored.
use mathlib.Core.Path.{refl}
use mathlib.Core.List.{[]}
use Rattle.rules.proofs.IdLaws.{number_id}
use Rattle.hadulmir.proofs.Facing.{unread, may_store, stored_alone}
use Rattle.hadulmir.proofs.choose.Goals as goal

pub returns-in_default : goal.returns-in_default
returns-in_default c = unread _ c.read.ensures c.in_default.is _ [] c.negative.ensures

pub finish-requires : goal.finish-requires
finish-requires c =
    may_store _ c.read.ensures c.in-Ok.is c.choose.result _ c.choose.ensures

pub returns : goal.returns
returns c =
    stored_alone _ c.read.ensures c.in-Ok.is c.choose.result _ (rw (c.of.ensures, number_id) at c.choose.ensures) refl
    c.finish.ensures
