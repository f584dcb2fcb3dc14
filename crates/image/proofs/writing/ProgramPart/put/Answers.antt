-- Field after field.
use mathlib.Core.Path.{refl}
use Prim.Native.Nat.{◌+◌}
use mir.Val.{bool_byte}
use native.Mathlib.Omega.{arith}
use Rattle.rules.specs.Bytes.{big}
use Rattle.rules.specs.Image.{program_bytes}
use Rattle.octets.proofs.Writes.{wrote_none, then}
use Rattle.image.proofs.InRows.{mark_byte}
use Rattle.image.proofs.writing.ProgramPart.put.Goals as goal

pub returns : goal.returns
unfolding big program_bytes
returns c =
    let a = c.args in
    let p = a.self in
    let w₁ = then (wrote_none a.out.now a.at (omega arith)) a.at (omega arith) 1 (bool_byte p.added) (omega arith) c.write_at.ensures in
    let w₂ = then w₁ (a.at + 1) refl 1 p.primacy (omega arith) c.write_at-2.ensures in
    let w₃ = then w₂ (a.at + 2) refl 4 p.defaults (omega arith) c.write_at-3.ensures in
    rw mark_byte at w₃.is
