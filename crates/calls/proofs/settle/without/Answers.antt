-- Of the controls that both have the lowest is cut, until none is left.
use Prim.Native.Nat.{◌<◌, ◌^◌}
use native.Mathlib.Omega.{arith}
use native.Mathlib.Nat.{one-mul}
use lib.Pow.{shl_exact, pow-lt}
use Rattle.calls.proofs.Sets.{has_within, and_not, none_cut, one_cut, all_cut}
use Rattle.calls.proofs.settle.without.Goals.{In-Some}
use Rattle.calls.proofs.settle.without.Goals as goal

below : (c : In-Some) → c.in-Some.control < 32
below c = has_within 32 c.args.mask _ c.ranges.mask.fits (c.loop-control.invariant.shared _ c.in-Some.ensures.steps.here).0

pub loop-control-init : goal.loop-control-init
loop-control-init c =
    rw (c.into_iter-control-iterator.ensures.into_iter_gives, c.of-control-items.ensures) (none_cut c.args.mask c.args.other)

pub loop-control-preserved : goal.loop-control-preserved
loop-control-preserved c =
    let bit = shl_exact {a = 1} 1 c.in-Some.control 32 (omega arith) (omega (arith, below c)) in
    let alone = and_not 32 c.loop-control.left (2 ^ c.in-Some.control) c.loop-control.auto.left-fits.fits (pow-lt (below c)) in
    rw (bit, one-mul, alone) (one_cut c.loop-control.invariant c.in-Some.ensures.steps)

pub returns : goal.returns
returns c = all_cut c.args.mask c.args.other c.loop-control.invariant c.in-None.ensures.steps.0

pub overflow_cast-left : goal.overflow_cast-left
overflow_cast-left c = omega (arith, below c)

pub overflow_shl-left : goal.overflow_shl-left
overflow_shl-left c = below c
