use mathlib.Core.Path.{◌≡◌, sym, ◌∙◌}
use Prim.Native.Nat.{◌+◌, ◌-◌}
use native.Mathlib.Omega.{arith}
use Rattle.octets.proofs.Fits.{room, no_room, put_inside, put_outside}
use Rattle.octets.proofs.Writes.{left_all, left_less, left_none}
use Rattle.octets.proofs.put.Goals as goal

pub returns-then-not-has_room : goal.returns-then-not-has_room
returns-then-not-has_room c = sym (put_outside _ _ _ _ (no_room c.args.n c.args.at c.args.b.now c.has_room.ensures c.if-not-has_room.true))

pub loop-i-init : goal.loop-i-init
loop-i-init c =
    let a = c.args in
    let all : a.at + a.n - a.at ≡ a.n = omega arith in
    (omega arith, rw all (left_all a.b.now a.at a.n a.x))

pub loop-i-preserved : goal.loop-i-preserved
loop-i-preserved c =
    let a = c.args in
    let l = c.loop-i in
    let within = room c.args.n c.args.at c.args.b.now c.has_room.ensures c.if-not-has_room.false in
    let place : a.at + (l.i - a.at - 1) ≡ l.i - 1 = omega arith in
    let left : l.i - a.at - 1 ≡ l.i - 1 - a.at = omega arith in
    (omega arith, rw (place, left) at (left_less (l.i - a.at) (omega arith) (omega (arith, within)) l.invariant.1))

pub returns : goal.returns
returns c =
    let a = c.args in
    let l = c.loop-i in
    let within = room c.args.n c.args.at c.args.b.now c.has_room.ensures c.if-not-has_room.false in
    let none : l.i - a.at ≡ 0 = omega arith in
    left_none within (rw none at l.invariant.1) ∙ sym (put_inside _ _ _ _ within)
