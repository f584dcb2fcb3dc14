-- The bytes, the most significant first, over what stood there, if there is room.
use mathlib.Core.Path.{sym, ◌∙◌}
use native.Mathlib.Omega.{arith}
use Rattle.octets.proofs.Fits.{room, no_room, put_inside, put_outside}
use Rattle.octets.proofs.Writes.{written}
use Rattle.octets.proofs.numbers.U32Number.write_at.Goals as goal

pub returns-then-not-has_room : goal.returns-then-not-has_room
returns-then-not-has_room c = let a = c.args in sym (put_outside 4 a.at a.b.now a.self (no_room 4 a.at a.b.now c.has_room.ensures c.if-not-has_room.true))

pub returns : goal.returns
returns c =
    let a = c.args in
    let l = a.b.now in
    let within = room 4 a.at l c.has_room.ensures c.if-not-has_room.false in
    written a.at _ 4 a.self l (omega arith) (c.copy_from_slice.ensures.after ∙ c.to_be_bytes.ensures) ∙ sym (put_inside 4 a.at l a.self within)
