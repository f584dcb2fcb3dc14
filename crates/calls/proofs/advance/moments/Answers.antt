use native.Mathlib.Omega.{arith}
use Rattle.calls.proofs.Changes.{stops_ends, stops_starts}
use Rattle.calls.proofs.Advancing.{opened, next_later, ahead, step, steady_next, stop}
use Rattle.calls.proofs.advance.moments.Goals as goal

pub holders-holding-requires : goal.holders-holding-requires
holders-holding-requires c = c.requires.ready.0.used

pub is_quiet-requires : goal.is_quiet-requires
is_quiet-requires c = let p = c.requires.clock_le_to in omega (arith, p.0, p.1)

pub open-s-requires : goal.open-s-requires
open-s-requires c =
    let p = c.requires in
    (p.ready.0.used.size, λ i e. omega (arith, ((c.holders-holding.ensures i).0 e).0, p.ready.0.used.few))

pub loop-t-init : goal.loop-t-init
loop-t-init c =
    let p = c.requires in
    let o = opened c.holders-holding.result p.ready.0 p.ready.1 p.clock_le_to.0 p.clock_le_to.1 p.clock_le_to.2 c.holders-holding.ensures c.time_at-t.result c.time_at-t.ensures c.is_quiet.ensures c.open-s.ensures in
    (o.0, o.1, c.time_at-t.ensures, o.2)

pub start_at-requires : goal.start_at-requires
start_at-requires c = (omega (arith, c.loop-t-test.true, c.loop-t.invariant.1.last), omega arith)

pub take-ends-requires : goal.take-ends-requires
take-ends-requires c =
    let s = c.loop-t.invariant in
    let g = s.1 in
    rw c.start_at.ensures (stops_ends g.planned g.ready.used.few g.last g.reached g.from s.2 c.loop-t-test.true)

pub after_starts-requires : goal.after_starts-requires
after_starts-requires c = omega (arith, c.loop-t-test.true, c.loop-t.invariant.1.last)

pub take-starts-requires : goal.take-starts-requires
take-starts-requires c =
    let s = c.loop-t.invariant in
    let g = s.1 in
    let ends = rw c.start_at.ensures at c.take-ends.ensures in
    rw c.after_starts.ensures (stops_starts g.planned g.ready.used.few g.last g.reached g.from s.2 c.loop-t-test.true ends)

pub moment-s-requires : goal.moment-s-requires
moment-s-requires c =
    let s = c.loop-t.invariant in
    let ends = rw c.start_at.ensures at c.take-ends.ensures in
    let starts = rw c.after_starts.ensures at c.take-starts.ensures in
    ahead s.1 c.loop-t.t s.2 s.3 c.loop-t-test.true ends starts

pub time_at-t-requires-in-loop-t : goal.time_at-t-requires-in-loop-t
time_at-t-requires-in-loop-t c = c.take-starts.ensures.inside

pub loop-t-smaller : goal.loop-t-smaller
loop-t-smaller c =
    let s = c.loop-t.invariant in
    let ends = rw c.start_at.ensures at c.take-ends.ensures in
    let starts = rw c.after_starts.ensures at c.take-starts.ensures in
    let going = step s.1 c.loop-t.t s.2 s.3 c.loop-t-test.true ends starts c.moment-s.ensures in
    omega (arith, next_later going c.time_at-t-in-loop-t.result c.time_at-t-in-loop-t.ensures, c.loop-t-test.true)

pub loop-t-preserved : goal.loop-t-preserved
loop-t-preserved c =
    let s = c.loop-t.invariant in
    let ends = rw c.start_at.ensures at c.take-ends.ensures in
    let starts = rw c.after_starts.ensures at c.take-starts.ensures in (
      c.loop-t.t,
      step s.1 c.loop-t.t s.2 s.3 c.loop-t-test.true ends starts c.moment-s.ensures,
      c.time_at-t-in-loop-t.ensures,
      λ x y. steady_next s.1 c.loop-t.t s.2 s.3 c.loop-t-test.true ends starts c.moment-s.ensures,
    )

pub returns : goal.returns
returns c = let s = c.loop-t.invariant in stop s.1 c.loop-t.t s.2 s.3 (omega (arith, c.loop-t-test.false))
