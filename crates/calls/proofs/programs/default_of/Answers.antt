use mathlib.Core.Path.{◌≡◌}
use Prim.Native.Nat.{◌-◌}
use native.Mathlib.Omega.{arith}
use lib.ListN.{length}
use Rattle.rules.specs.Records.{most_programs}
use Rattle.calls.proofs.Asking.{default_next, default_none}
use Rattle.calls.proofs.programs.default_of.Goals as goal

pub loop-i-init : goal.loop-i-init
loop-i-init c =
    let l : length c.args.programs ≡ most_programs = c.well_formed.0.1.0.1 in
    (omega arith, l, c.requires, default_none c.args.control c.args.programs l)

pub loop-i-preserved : goal.loop-i-preserved
loop-i-preserved c =
    let l = c.loop-i in
    let a = c.args in
    (omega arith, l.invariant.1, l.invariant.2, default_next a.control l.i (l.i - 1) a.programs l.best c.better_default-best.result (omega arith) (omega arith) l.invariant.3 c.better_default-best.ensures)

pub returns-in-Some : goal.returns-in-Some
returns-in-Some c =
    let l = c.loop-i in
    let z : l.i ≡ 0 = omega arith in
    rw (← (rw z at l.invariant.3), c.in-Some.is)

pub returns-in-None : goal.returns-in-None
returns-in-None c =
    let l = c.loop-i in
    let z : l.i ≡ 0 = omega arith in
    rw (← (rw z at l.invariant.3), c.in-None.is)
