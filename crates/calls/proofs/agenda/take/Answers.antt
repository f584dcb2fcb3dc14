use Prim.Native.Nat.{◌%◌}
use native.Mathlib.Nat.{one-mul}
use native.Mathlib.Omega.{arith}
use lib.ListN.{get_or}
use lib.Pow.{shl_exact}
use Rattle.calls.specs.Sets.{set_width}
use Rattle.calls.proofs.Changes.{taken_none, taken_more, taken_all}
use Rattle.calls.proofs.agenda.take.Goals as goal

pub loop-next-preserved : goal.loop-next-preserved
loop-next-preserved c =
    let l = c.loop-next in
    let x = get_or c.args.agenda.now l.next 0 in
    rw (shl_exact {a = 1} 1 (x % set_width) 64 (omega arith) (omega arith), one-mul) (taken_more l.invariant (omega arith))

pub returns : goal.returns
returns c = taken_all c.loop-next.invariant (omega arith)

pub loop-next-init : goal.loop-next-init
loop-next-init c = taken_none c.requires
