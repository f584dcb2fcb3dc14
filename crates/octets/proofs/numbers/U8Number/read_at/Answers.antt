-- One byte, if it is there.
use mathlib.Core.Path.{◌≡◌, sym}
use Prim.Native.Nat.{◌+◌}
use native.Mathlib.Omega.{arith}
use Rattle.rules.specs.Bytes.{read}
use Rattle.octets.proofs.Fits.{room, no_room, number_inside, number_outside}
use Rattle.octets.proofs.numbers.U8Number.read_at.Goals as goal

pub returns-then-has_room : goal.returns-then-has_room
unfolding read
returns-then-has_room c =
    let a = c.args in
    let l = a.b.now in
    let first : a.at + 0 ≡ a.at = omega arith in
    rw (number_inside 1 a.at l (room 1 a.at l c.has_room.ensures c.if-has_room.true), first) (omega arith)

pub returns-else-has_room : goal.returns-else-has_room
returns-else-has_room c = let a = c.args in sym (number_outside 1 a.at a.b.now (no_room 1 a.at a.b.now c.has_room.ensures c.if-has_room.false))
