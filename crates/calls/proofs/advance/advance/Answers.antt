-- The moments of the agenda; then what has ended is dropped, if anything has.
use mathlib.Core.Path.{refl}
use Rattle.calls.proofs.Slots.{in_use, ready}
use Rattle.calls.proofs.Advancing.{unused_still, advanced, still_sound, none_ended}
use Rattle.calls.proofs.advance.advance.Goals.{then-through-ne0, else-through-ne0}
use Rattle.calls.proofs.advance.advance.Goals as goal

pub gather-requires : goal.gather-requires
gather-requires c = let u = in_use c.args.s.now.schedule c.args.s.now.good in (u.few, u.size, c.requires.1, refl)

pub moments-through-requires : goal.moments-through-requires
moments-through-requires c =
    let s = c.args.s.now.schedule in
    record { ready = (rw c.head_of-d.ensures (ready s c.args.s.now.good), rw c.head_of-d.ensures c.gather.ensures); clock_le_to = rw c.head_of-d.ensures c.requires }

pub finish-s-requires : goal.finish-s-requires
finish-s-requires c = unused_still c.args.s.now.schedule c.args.s.now.good (rw c.head_of-d.ensures at c.moments-through.ensures)

pub invariant_of-s : goal.invariant_of-s
invariant_of-s c =
    let s = c.args.s.now.schedule in
    let g = c.args.s.now.good in
    let p = rw c.head_of-d.ensures at c.moments-through.ensures in
    let l = c.requires in
    elim c.if-through-ne0.branch [
      | then-through-ne0 w ↦ rw w.s-is (record { good = still_sound s g p l.0 l.1 (advanced s g p w.finish-s.ensures) })
      | else-through-ne0 w ↦ rw w.s-is (record { good = still_sound s g p l.0 l.1 (advanced s g p (none_ended s g p w.if-through-ne0.false)) })
    ]

pub returns : goal.returns
returns c =
    let s = c.args.s.now.schedule in
    let p = rw c.head_of-d.ensures at c.moments-through.ensures in
    elim c.if-through-ne0.branch [
      | then-through-ne0 w ↦ rw w.s-is (advanced s c.args.s.now.good p w.finish-s.ensures)
      | else-through-ne0 w ↦ rw w.s-is (advanced s c.args.s.now.good p (none_ended s c.args.s.now.good p w.if-through-ne0.false))
    ]
