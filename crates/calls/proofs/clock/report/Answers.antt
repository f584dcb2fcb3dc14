use mathlib.Core.Path.{◌∙◌}
use native.Mathlib.Omega.{arith}
use Rattle.calls.proofs.Turns.{none_reported, next_place, has_room, report_next, all_reported}
use Rattle.calls.proofs.clock.report.Goals as goal

pub loop-place-preserved : goal.loop-place-preserved
loop-place-preserved c =
    report_next _ _ _ _ c.loop-place.invariant c.in-Some.ensures.steps (rw (c.number.ensures ∙ c.code_at-code.ensures) at c.add_row.ensures)

pub loop-place-init : goal.loop-place-init
loop-place-init c = rw (c.into_iter-place-iterator.ensures.into_iter_gives, c.of-place-items.ensures) (none_reported _ _ _ _ _ _ c.requires.1)

pub code_at-code-requires : goal.code_at-code-requires
code_at-code-requires c = next_place _ _ _ _ c.loop-place.invariant c.in-Some.ensures.steps

pub add_row-requires : goal.add_row-requires
add_row-requires c =
    (c.loop-place.invariant.written.size ∙ c.requires.0, has_room _ _ _ _ c.loop-place.invariant c.in-Some.ensures.steps c.requires.2)

pub overflow_add-at : goal.overflow_add-at
overflow_add-at c =
    omega (arith, has_room _ _ _ _ c.loop-place.invariant c.in-Some.ensures.steps c.requires.2)

pub returns : goal.returns
returns c = all_reported _ _ _ _ c.loop-place.invariant c.in-None.ensures.steps.0
