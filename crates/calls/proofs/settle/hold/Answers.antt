-- The event at the place gets another mask. The bit of the place is cut from the set, and joined to it again if the mask is not 0.
use mathlib.Core.List.{List}
use Prim.Native.Nat.{ℕ, ◌<◌, ◌^◌}
use mathlib.Core.Path.{◌≡◌, ◌∙◌}
use native.Mathlib.Omega.{arith}
use native.Mathlib.Nat.{one-mul}
use lib.ListN.{length, set, length-set}
use lib.Pow.{pow-lt, shl_exact}
use lib.Seq.{get_or-set_same, get_or-set_other}
use Rattle.rules.specs.declared.Entry.{Entry}
use Rattle.rules.specs.Records.{most_events}
use Rattle.calls.specs.Sets.{blank, event_at, masked, Masked}
use Rattle.calls.proofs.Sets.{and_not, kept_out, kept_in}
use Rattle.calls.proofs.settle.hold.Goals as goal

-- the event at a place with another mask
one_mask : (w : List Entry) (i mask : ℕ) → i < most_events → length w ≡ most_events → Masked i mask w (set w i (masked (event_at w i) mask))
one_mask w i mask l e = record {
  size = length-set w i _ ∙ e;
  here = get_or-set_same w i _ blank (omega arith);
  others = λ j d. get_or-set_other w i j _ blank d;
}

bit : {i : ℕ} → i < 64 → 2 ^ i < 2 ^ 64
bit l = pow-lt l

pub returns-then-mask-eq0 : goal.returns-then-mask-eq0
returns-then-mask-eq0 c =
    let a = c.args in (
      one_mask a.slots.now a.i a.mask c.requires.0 c.requires.1,
      rw (shl_exact {a = 1} 1 a.i 64 (omega arith) (omega arith), one-mul, and_not 64 a.holding (2 ^ a.i) c.ranges.holding.fits (bit (omega arith))) (kept_out a.holding a.i a.mask c.if-mask-eq0.true),
    )

pub returns : goal.returns
returns c =
    let a = c.args in (
      one_mask a.slots.now a.i a.mask c.requires.0 c.requires.1,
      rw (shl_exact {a = 1} 1 a.i 64 (omega arith) (omega arith), one-mul, and_not 64 a.holding (2 ^ a.i) c.ranges.holding.fits (bit (omega arith))) (kept_in a.holding a.i a.mask c.if-mask-eq0.false),
    )
