use native.Mathlib.Omega.{arith}
use Rattle.octets.proofs.Writes.{wrote_none}
use Rattle.frame.specs.Encoded.{hexed}
use Rattle.frame.proofs.Writes.{one_pair}
use Rattle.frame.proofs.digits.put_pairs.Goals as goal

pub loop-i-init : goal.loop-i-init
unfolding hexed
loop-i-init c = wrote_none _ 0 (omega arith)

pub loop-i-preserved : goal.loop-i-preserved
loop-i-preserved c =
    let l = c.loop-i in
    rw (c.digit_of-in-loop-i.ensures, c.digit_of.ensures) (one_pair c.args.bytes.now l.i (omega arith) (omega arith) l.invariant)
