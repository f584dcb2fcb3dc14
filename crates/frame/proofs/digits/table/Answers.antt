use mathlib.Core.Path.{◌≡◌}
use native.Mathlib.Omega.{arith}
use Rattle.frame.proofs.Worths.{below_none, below_more, below_all}
use Rattle.frame.proofs.digits.table.Goals as goal

pub loop-d-init : goal.loop-d-init
loop-d-init c = below_none

pub loop-d-preserved : goal.loop-d-preserved
loop-d-preserved c = rw c.digit_of.ensures (below_more c.loop-d-test.true c.loop-d.invariant)

pub returns : goal.returns
returns c =
    let e : c.loop-d.d ≡ 16 = omega arith in
    below_all (rw e at c.loop-d.invariant)
