use native.Mathlib.Omega.{arith}
use Rattle.text.proofs.Printing.{decimal_within}
use Rattle.text.proofs.Digits.{enough}
use Rattle.text.proofs.Division.{few_true, few_false, front_digits, put_rest}
use Rattle.text.proofs.writing.Text.+wide.Goals as goal

pub returns-then-high-low : goal.returns-then-high-low
returns-then-high-low t c =
    let a = c.args in
    let few = few_true a.high a.low c.if-high-low.true in
    rw (few.0, enough 7 31 a.low few.1) c.below_eight.ensures

pub put_eight-requires : goal.put_eight-requires
put_eight-requires t c =
    let d = c.divide-d in
    let digits = front_digits d.ensures (c.ranges.high.fits) (omega (arith, d.type_inv)) c.wide.ensures in
    record { below = omega (arith, d.ensures.rest); room = omega (arith, decimal_within _ _ digits) }

pub returns : goal.returns
returns t c =
    let a = c.args in
    let d = c.divide-d in
    let digits = front_digits d.ensures (c.ranges.high.fits) (omega (arith, d.type_inv)) c.wide.ensures in
    put_rest d.ensures 31 (few_false a.high a.low c.if-high-low.false) (omega arith) digits c.put_eight.ensures
