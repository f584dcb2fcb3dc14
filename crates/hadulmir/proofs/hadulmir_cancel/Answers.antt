-- Loaded, cancelled, stored.
use mathlib.Core.Path.{refl}
use mathlib.Core.List.{[]}
use Rattle.rules.proofs.IdLaws.{number_id}
use Rattle.hadulmir.proofs.Facing.{unread, may_store, stored_alone}
use Rattle.hadulmir.proofs.hadulmir_cancel.Goals as goal

pub returns-in_default : goal.returns-in_default
returns-in_default c = unread _ c.read.ensures c.in_default.is _ [] c.negative.ensures

pub finish-requires : goal.finish-requires
finish-requires c =
    may_store _ c.read.ensures c.in-Ok.is c.cancel.result _ c.cancel.ensures

pub returns : goal.returns
returns c =
    stored_alone _ c.read.ensures c.in-Ok.is c.cancel.result _ (rw (c.of.ensures, number_id) at c.cancel.ensures) refl
    c.finish.ensures
