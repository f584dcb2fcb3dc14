use mathlib.Core.Path.{◌≡◌, refl}
use Prim.Native.Nat.{◌+◌, ◌*◌, ◌/◌}
use native.Mathlib.Omega.{arith}
use lib.ListN.{length, get_or}
use Rattle.frame.specs.Decoded.{worth}
use Rattle.frame.proofs.Worths.{worth_bound, pair_good, pair_bad}
use Rattle.frame.proofs.Passes.{passed_none, passed_more, no_digit, passed_all, high_read, low_read}
use Rattle.frame.proofs.digits.read_pairs.Goals as goal

pub loop-i-init : goal.loop-i-init
loop-i-init c = passed_none _ _ c.requires.places

pub overflow_mul-pair : goal.overflow_mul-pair
overflow_mul-pair c =
    let line = c.args.line.now in
    let i = c.loop-i.i in
    let high : c.value-high.result ≡ worth (get_or line (2 * i) 0) = high_read line c.as_chunks.ensures.front (omega arith) c.value-high.ensures in
    omega (arith, worth_bound (get_or line (2 * i) 0))

pub overflow_add-pair : goal.overflow_add-pair
overflow_add-pair c =
    let line = c.args.line.now in
    let i = c.loop-i.i in
    let high : c.value-high.result ≡ worth (get_or line (2 * i) 0) = high_read line c.as_chunks.ensures.front (omega arith) c.value-high.ensures in
    let low : c.value-low.result ≡ worth (get_or line (2 * i + 1) 0) = low_read line c.as_chunks.ensures.front (omega arith) c.value-low.ensures in
    omega (arith, worth_bound (get_or line (2 * i) 0), worth_bound (get_or line (2 * i + 1) 0))

pub returns-then-pair-gt255 : goal.returns-then-pair-gt255
returns-then-pair-gt255 c =
    let line = c.args.line.now in
    let i = c.loop-i.i in
    let high : c.value-high.result ≡ worth (get_or line (2 * i) 0) = high_read line c.as_chunks.ensures.front (omega arith) c.value-high.ensures in
    let low : c.value-low.result ≡ worth (get_or line (2 * i + 1) 0) = low_read line c.as_chunks.ensures.front (omega arith) c.value-low.ensures in
    no_digit _ i (omega arith) c.loop-i.invariant refl refl (pair_bad (get_or line (2 * i) 0) (get_or line (2 * i + 1) 0) (omega (arith, c.if-pair-gt255.true)))

pub loop-i-preserved : goal.loop-i-preserved
loop-i-preserved c =
    let line = c.args.line.now in
    let i = c.loop-i.i in
    let high : c.value-high.result ≡ worth (get_or line (2 * i) 0) = high_read line c.as_chunks.ensures.front (omega arith) c.value-high.ensures in
    let low : c.value-low.result ≡ worth (get_or line (2 * i + 1) 0) = low_read line c.as_chunks.ensures.front (omega arith) c.value-low.ensures in
    let p = pair_good (get_or line (2 * i) 0) (get_or line (2 * i + 1) 0) (omega (arith, c.if-pair-gt255.false)) in
    rw (high, low, p.is) (passed_more _ i (omega arith) c.loop-i.invariant refl refl p.high p.low (omega arith))

pub returns : goal.returns
returns c =
    let e : c.loop-i.i ≡ length c.args.line.now / 2 = omega arith in
    passed_all c.requires.pairs (rw e at c.loop-i.invariant)
