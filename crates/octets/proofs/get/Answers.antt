use mathlib.Core.Path.{◌≡◌, refl, sym, ◌∙◌}
use mathlib.Core.Bool.{false}
use Prim.Native.Nat.{◌+◌, ◌<◌}
use native.Mathlib.Omega.{arith}
use native.Mathlib.Numerals.{add-one}
use borrow.Author.Tests.{lt-leb}
use lib.Dec.{leb}
use Rattle.rules.specs.Bytes.{read}
use Rattle.octets.specs.Octets.{get_at}
use Rattle.octets.proofs.Fits.{room, no_room, get_inside, get_outside, read_room, part_size, part_byte}
use Rattle.octets.proofs.get.Goals as goal
use Rattle.octets.proofs.get.Goals.{then-n-gt8-via-then-n-gt8, then-n-gt8-via-else-n-gt8+then-not-has_room}

pub returns-then-n-gt8 : goal.returns-then-n-gt8
unfolding get_at
returns-then-n-gt8 c =
    let a = c.args in
    elim c.then-n-gt8.branch [
      | then-n-gt8-via-then-n-gt8 w ↦ let wide : leb a.n 8 ≡ false = lt-leb a.n 8 w.if-n-gt8.true in rw wide
      | then-n-gt8-via-else-n-gt8+then-not-has_room w ↦ sym (get_outside _ _ _ (no_room c.args.n c.args.at c.args.b.now w.has_room.ensures w.if-not-has_room.true))
    ]

pub loop-byte-init : goal.loop-byte-init
unfolding read
loop-byte-init c = refl

-- what was read of fewer than 8 bytes leaves room for one more
pub overflow_mul-x : goal.overflow_mul-x
overflow_mul-x c =
    let a = c.args in
    let l = c.loop-byte in
    let size = part_size a.n a.at a.b.now (room c.args.n c.args.at c.args.b.now c.has_room.ensures c.if-not-has_room.false) in
    omega (arith, read_room a.b.now (λ k. omega (arith, c.type_inv.b k)) l.byte-index a.at (omega (arith, size)), l.invariant)

pub overflow_add-x : goal.overflow_add-x
overflow_add-x c =
    let a = c.args in
    let l = c.loop-byte in
    let i = l.byte-index in
    let size = part_size a.n a.at a.b.now (room c.args.n c.args.at c.args.b.now c.has_room.ensures c.if-not-has_room.false) in
    let byte = part_byte a.n a.at a.b.now i (omega (arith, size)) in
    omega (arith, read_room a.b.now (λ k. omega (arith, c.type_inv.b k)) i a.at (omega (arith, size)), byte, c.type_inv.b (a.at + i), l.invariant)

pub loop-byte-preserved : goal.loop-byte-preserved
unfolding read
loop-byte-preserved c =
    let a = c.args in
    let l = c.loop-byte in
    let size = part_size a.n a.at a.b.now (room c.args.n c.args.at c.args.b.now c.has_room.ensures c.if-not-has_room.false) in
    let within : l.byte-index < a.n = omega (arith, size) in
    rw (add-one, part_byte a.n a.at a.b.now l.byte-index within, l.invariant)

pub returns : goal.returns
returns c =
    let a = c.args in
    let l = c.loop-byte in
    let within = room c.args.n c.args.at c.args.b.now c.has_room.ensures c.if-not-has_room.false in
    let all : l.byte-index ≡ a.n = omega (arith, part_size a.n a.at a.b.now within) in
    rw all at l.invariant ∙ sym (get_inside _ _ _ (omega arith) within)
