-- The lower half alone, or both.
use mathlib.Core.Path.{◌≡◌}
use native.Mathlib.Omega.{arith}
use Rattle.rules.specs.Records.{halves, id_number}
use Rattle.text.proofs.Printing.{put_then, decimal_within}
use Rattle.text.proofs.Digits.{enough}
use Rattle.text.proofs.writing.Text.id_text.Goals as goal

pub returns-then-high-eq0 : goal.returns-then-high-eq0
returns-then-high-eq0 c =
    let a = c.args in
    let e : id_number a.id ≡ c.lower-low.result = omega (arith, c.if-high-eq0.true, c.upper-high.ensures, c.lower-low.ensures) in
    rw (e, enough 19 19 c.lower-low.result (omega arith)) c.number.ensures

-- there is a place for the byte
pub put-requires : goal.put-requires
put-requires c = omega (arith, decimal_within _ _ c.wide.ensures)

pub returns : goal.returns
returns c =
    let a = c.args in
    let e : halves c.upper-high.result c.lower-low.result ≡ id_number a.id = omega (arith, c.upper-high.ensures, c.lower-low.ensures) in
    put_then (omega arith) (rw e at c.wide.ensures) c.put.ensures
