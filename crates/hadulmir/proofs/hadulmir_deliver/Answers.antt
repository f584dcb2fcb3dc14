-- Loaded, delivered to, stored.
use mathlib.Core.Path.{refl}
use mathlib.Core.List.{[]}
use Rattle.hadulmir.proofs.Facing.{unread, may_store, stored_alone}
use Rattle.hadulmir.proofs.hadulmir_deliver.Goals as goal

pub returns-in_default : goal.returns-in_default
returns-in_default c = unread _ c.read.ensures c.in_default.is _ [] c.negative.ensures

pub finish-requires : goal.finish-requires
finish-requires c =
    may_store _ c.read.ensures c.in-Ok.is c.deliver.result _ c.deliver.ensures

pub returns : goal.returns
returns c =
    stored_alone _ c.read.ensures c.in-Ok.is c.deliver.result _ (rw c.of.ensures at c.deliver.ensures) refl
    c.finish.ensures
