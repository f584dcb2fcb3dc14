use mathlib.Core.Path.{◌≡◌, refl}
use mathlib.Core.List.{List}
use Prim.Native.Nat.{ℕ, ◌+◌, ◌<◌, ◌≤◌}
use native.Mathlib.Omega.{arith}
use lib.ListN.{length, drop}
use Rattle.frame.specs.Ends.{up_to}
use Rattle.calls.proofs.Running.{running_none, running_size, running_end, running_stop, running_past, running_more}
use Rattle.frame.proofs.Ends.{end_within}
use Rattle.calls.proofs.lines.run.Goals.{else-loop-from-test, then-loop-from-test+then-end-lines, then-loop-from-test+else-end-lines+then-out-at-lt-MOST}
use Rattle.calls.proofs.lines.run.Goals as goal

pub loop-from-init : goal.loop-from-init
loop-from-init c = (running_none _ c.args.lines.now c.args.out.now, refl)

pub next_line-found-requires : goal.next_line-found-requires
next_line-found-requires c = c.loop-from.invariant.0.within

pub overflow_sub-out : goal.overflow_sub-out
overflow_sub-out c = let l = c.loop-from in omega (arith, running_size l.invariant.0, l.invariant.0.fits)

pub tell-at-requires : goal.tell-at-requires
tell-at-requires c =
    let v = c.loop-from.invariant in
    (v.1, omega (arith, c.if-out-at-lt-MOST.false, running_size v.0, v.0.fits))

-- the line feed stands within the text
within : (lines : List ℕ) (from : ℕ) {end : ℕ} → from ≤ length lines → end ≡ from + up_to (drop from lines) → (end ≡ length lines → ⊥) → end < length lines
within lines from here is more = omega (arith, more, is, end_within lines from here)

pub overflow_add-from : goal.overflow_add-from
overflow_add-from c =
    let v = c.loop-from.invariant.0 in
    omega (arith, c.well_formed, within c.args.lines.now c.loop-from.from v.within c.next_line-found.ensures.end c.if-end-lines.false)

pub loop-from-smaller : goal.loop-from-smaller
loop-from-smaller c =
    let v = c.loop-from.invariant.0 in
    let end = c.next_line-found.ensures.end in
    omega (arith, within c.args.lines.now c.loop-from.from v.within end c.if-end-lines.false, end)

pub loop-from-preserved : goal.loop-from-preserved
loop-from-preserved c =
    let v = c.loop-from.invariant.0 in
    let line = c.next_line-found in
    let there = within c.args.lines.now c.loop-from.from v.within line.ensures.end c.if-end-lines.false in
    let t = c.tell-at.ensures in
    (running_more v line.result.end line.ensures.end there (omega (arith, c.if-out-at-lt-MOST.false, running_size v)) line.ensures.line t, t.long)

pub shape_of-out : goal.shape_of-out
shape_of-out c = running_size c.loop-from.invariant.0

pub returns : goal.returns
returns c =
    let a = c.args in
    let l = c.loop-from in
    let v = l.invariant.0 in
    elim c.loop-from-test.branch [
      | else-loop-from-test w ↦ running_past v w.loop-from-test.false
      | then-loop-from-test+then-end-lines w ↦ running_end v _ w.next_line-found.ensures.end (omega (arith, w.if-end-lines.true))
      | then-loop-from-test+else-end-lines+then-out-at-lt-MOST w ↦
          running_stop v _ w.next_line-found.ensures.end
          (within a.lines.now l.from v.within w.next_line-found.ensures.end w.if-end-lines.false)
          (omega (arith, w.if-out-at-lt-MOST.true, running_size v))
    ]
