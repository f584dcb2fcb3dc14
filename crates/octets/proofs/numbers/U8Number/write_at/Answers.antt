-- One byte, if there is room.
use mathlib.Core.Path.{◌≡◌, sym}
use Prim.Native.Nat.{◌%◌}
use native.Mathlib.Omega.{arith}
use Rattle.rules.specs.Bytes.{big}
use Rattle.octets.proofs.Fits.{room, no_room, put_inside, put_outside}
use Rattle.octets.proofs.Writes.{set_over}
use Rattle.octets.proofs.numbers.U8Number.write_at.Goals as goal

pub returns-then-not-has_room : goal.returns-then-not-has_room
returns-then-not-has_room c = let a = c.args in sym (put_outside 1 a.at a.b.now a.self (no_room 1 a.at a.b.now c.has_room.ensures c.if-not-has_room.true))

pub returns : goal.returns
unfolding big
returns c =
    let a = c.args in
    let l = a.b.now in
    let within = room 1 a.at l c.has_room.ensures c.if-not-has_room.false in
    let fits : a.self % 256 ≡ a.self = omega arith in
    rw (put_inside 1 a.at l a.self within, fits) (set_over l a.at a.self (omega arith))
