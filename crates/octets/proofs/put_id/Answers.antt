-- Half after half, if there is room.
use mathlib.Core.Path.{sym, ap, ap₂, ◌∙◌}
use mathlib.Core.List.{◌++◌}
use Prim.Native.Nat.{◌+◌}
use native.Mathlib.Omega.{arith}
use Rattle.rules.specs.Lists.{over_at}
use Rattle.rules.specs.Records.{half_size, id_size, id_number}
use Rattle.rules.specs.Bytes.{big}
use Rattle.rules.proofs.Numbers.{big_length}
use Rattle.octets.proofs.Fits.{room, no_room, put_inside, put_outside}
use Rattle.octets.proofs.Joins.{id_bytes}
use Rattle.octets.proofs.Writes.{wrote_none, then}
use Rattle.octets.proofs.put_id.Goals as goal

pub returns-then-not-has_room : goal.returns-then-not-has_room
returns-then-not-has_room c = sym (put_outside _ _ _ _ (no_room id_size c.args.at c.args.out.now c.has_room.ensures c.if-not-has_room.true))

pub returns : goal.returns
returns c =
    let a = c.args in
    let l = a.out.now in
    let n = id_number a.id in
    let within = room id_size c.args.at c.args.out.now c.has_room.ensures c.if-not-has_room.false in
    let w₁ = then (wrote_none l a.at (omega (arith, within))) a.at (omega arith) half_size c.upper.result (omega (arith, within)) c.write_at.ensures in
    let w₂ = then w₁ (a.at + half_size) (omega (arith, big_length half_size c.upper.result)) half_size c.lower.result (omega (arith, within)) c.write_at-2.ensures in
    let bytes = ap₂ (λ x y. big half_size x ++ big half_size y) c.upper.ensures c.lower.ensures ∙ id_bytes n in
    w₂.is ∙ ap (λ v. over_at a.at v l) bytes ∙ sym (put_inside id_size a.at l n within)
