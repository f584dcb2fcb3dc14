-- They are all there and there is room for them, or not.
use mathlib.Core.Path.{◌≡◌, sym, ◌∙◌}
use Prim.Native.Nat.{◌+◌, ◌≤◌}
use native.Mathlib.Omega.{arith}
use lib.ListN.{length}
use Rattle.octets.proofs.Fits.{room, no_room, copy_inside, copy_short, copy_outside}
use Rattle.octets.proofs.Writes.{wrote_none, same_size, copied_one}
use Rattle.octets.proofs.copy.Goals as goal

pub returns-then-from-n : goal.returns-then-from-n
returns-then-from-n c = sym (copy_short _ _ _ _ (omega arith))

pub returns-then-not-has_room : goal.returns-then-not-has_room
returns-then-not-has_room c = let a = c.args in sym (copy_outside _ _ _ _ (no_room a.n a.at a.to.now c.has_room.ensures c.if-not-has_room.true))

pub loop-i-init : goal.loop-i-init
loop-i-init c = let a = c.args in wrote_none _ _ (omega (arith, room a.n a.at a.to.now c.has_room.ensures c.if-not-has_room.false))

pub bounds-to-at : goal.bounds-to-at
bounds-to-at c =
    let a = c.args in
    omega (arith, same_size c.loop-i.invariant, room a.n a.at a.to.now c.has_room.ensures c.if-not-has_room.false)

pub loop-i-preserved : goal.loop-i-preserved
loop-i-preserved c =
    let a = c.args in
    let l = c.loop-i in
    copied_one _ l.i (omega arith) (omega (arith, room a.n a.at a.to.now c.has_room.ensures c.if-not-has_room.false)) l.invariant

pub returns : goal.returns
returns c =
    let l = c.loop-i in
    let a = c.args in
    let within : a.at + a.n ≤ length a.to.now = room a.n a.at a.to.now c.has_room.ensures c.if-not-has_room.false in
    let z : l.i ≡ a.n = omega arith in
    rw z at l.invariant.is ∙ sym (copy_inside a.at a.n a.from.now a.to.now (omega arith) within)
