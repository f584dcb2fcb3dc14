use mathlib.Core.Path.{◌≡◌, refl, sym, ◌∙◌}
use mathlib.Core.Logic.{⊎_elim}
use mathlib.Core.Bool.{not}
use mathlib.Core.List.{List}
use Prim.Native.Nat.{ℕ, ◌+◌, ◌*◌, ◌≤◌}
use native.Mathlib.Omega.{arith}
use borrow.Author.Tests.{leb-true}
use lib.Dec.{leb, ltb}
use Rattle.rules.proofs.Tests.{both, each_true}
use Rattle.calls.specs.Agenda.{Inserted}
use Rattle.calls.specs.Sets.{event_at}
use Rattle.calls.proofs.Changes.{Plans, WithStart, passed, planned, no_changes, event_more, agenda_of}
use Rattle.calls.proofs.agenda.gather.Goals as goal

-- a change is planned as the number that it is
put_as : {m x y : ℕ} {a b : List ℕ} → x ≡ y → Inserted m x a b → Inserted m y a b
put_as e p = rw e at p

pub start_at-requires : goal.start_at-requires
start_at-requires c =
    let a = c.args in
    let begins = (event_at a.slots.now c.loop-i.i).begins in
    let t = each_true (not (event_at a.slots.now c.loop-i.i).cancelled) _ (sym c.is_coming.ensures ∙ c.if-is_coming.true) in
    (omega (arith, leb-true begins a.to (each_true (ltb a.clock begins) (leb begins a.to) t.1).1), omega arith)

-- `begun` is after the start of the event at i
pub loop-i-preserved : goal.loop-i-preserved
loop-i-preserved c =
    let l = c.loop-i in
    let a = c.args in
    let begun : (c.if-is_coming.m ≤ 2 * l.i + 1) × Plans (WithStart a.clock a.to l.i a.slots.now c.is_coming.result (event_at a.slots.now l.i).begins) c.if-is_coming.m c.if-is_coming.agenda =
    ⊎_elim
    (λ w. (omega (arith, l.invariant.1, w.m-is), rw (w.agenda-is, w.m-is) (planned l.invariant.2 w.if-is_coming.true (put_as w.start_at.ensures w.plan.ensures))))
    (λ w. (omega (arith, l.invariant.1, w.m-is), rw (w.agenda-is, w.m-is) (passed l.invariant.2 (λ t. both _ t w.if-is_coming.false))))
    c.if-is_coming.branch-raw in
    let more = event_more a.clock a.to l.i a.slots.now refl refl c.is_coming.ensures c.ends_at-ends.ensures in
    ⊎_elim
    (λ w. (omega arith, omega (arith, begun.0, w.m-is), rw (w.agenda-is, w.m-is) (more _ _ (planned begun.1 w.if-ends-to.true (put_as w.end_at.ensures w.plan-then-ends-to.ensures)))))
    (λ w. (omega arith, omega (arith, begun.0, w.m-is), rw (w.agenda-is, w.m-is) (more _ _ (passed begun.1 (λ t. omega (arith, w.if-ends-to.false))))))
    c.if-ends-to.branch-raw

pub returns : goal.returns
returns c =
    let z : c.loop-i.i ≡ c.args.n = omega arith in
    agenda_of (omega arith) (rw z at c.loop-i.invariant.2)

pub loop-i-init : goal.loop-i-init
loop-i-init c = (omega arith, omega arith, no_changes c.args.clock c.args.to c.args.slots.now c.requires.3)

pub plan-requires : goal.plan-requires
plan-requires c = let l = c.loop-i in (omega arith, l.invariant.2.filled)

pub plan-requires-then-ends-to : goal.plan-requires-then-ends-to
plan-requires-then-ends-to c =
    let l = c.loop-i in
    let a = c.args in
    let begun : (c.if-is_coming.m ≤ 2 * l.i + 1) × Plans (WithStart a.clock a.to l.i a.slots.now c.is_coming.result (event_at a.slots.now l.i).begins) c.if-is_coming.m c.if-is_coming.agenda =
    ⊎_elim
    (λ w. (omega (arith, l.invariant.1, w.m-is), rw (w.agenda-is, w.m-is) (planned l.invariant.2 w.if-is_coming.true (put_as w.start_at.ensures w.plan.ensures))))
    (λ w. (omega (arith, l.invariant.1, w.m-is), rw (w.agenda-is, w.m-is) (passed l.invariant.2 (λ t. both _ t w.if-is_coming.false))))
    c.if-is_coming.branch-raw in
    (omega (arith, begun.0), begun.1.filled)

pub overflow_add-m-then-ends-to : goal.overflow_add-m-then-ends-to
overflow_add-m-then-ends-to c =
    let l = c.loop-i in
    let a = c.args in
    let begun : (c.if-is_coming.m ≤ 2 * l.i + 1) × Plans (WithStart a.clock a.to l.i a.slots.now c.is_coming.result (event_at a.slots.now l.i).begins) c.if-is_coming.m c.if-is_coming.agenda =
    ⊎_elim
    (λ w. (omega (arith, l.invariant.1, w.m-is), rw (w.agenda-is, w.m-is) (planned l.invariant.2 w.if-is_coming.true (put_as w.start_at.ensures w.plan.ensures))))
    (λ w. (omega (arith, l.invariant.1, w.m-is), rw (w.agenda-is, w.m-is) (passed l.invariant.2 (λ t. both _ t w.if-is_coming.false))))
    c.if-is_coming.branch-raw in
    omega (arith, begun.0)
