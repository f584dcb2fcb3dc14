-- Field after field.
use mathlib.Core.Path.{refl}
use native.Mathlib.Omega.{arith}
use Rattle.rules.specs.Bytes.{big}
use Rattle.octets.proofs.Writes.{wrote_none, then}
use Rattle.frame.proofs.fields.put_program.Goals as goal

pub returns : goal.returns
unfolding big
returns c =
    let a = c.args in
    let w₁ = then (wrote_none a.b.now 1 (omega arith)) 1 refl 1 a.n (omega arith) c.put.ensures in
    let w₂ = then w₁ 2 refl 1 a.p (omega arith) c.put-2.ensures in
    let w₃ = then w₂ 3 refl 4 a.d (omega arith) c.put-3.ensures in
    w₃.is
