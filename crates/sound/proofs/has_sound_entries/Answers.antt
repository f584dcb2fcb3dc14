-- What is left to pass stands before what was passed, and a turn takes its last.
use Rattle.std.proofs.Common.{rules}
use mathlib.Core.Path.{ap, ◌∙◌}
use mathlib.Core.List.{[], ◌∷◌, ◌++◌, append_assoc}
use Rattle.rules.specs.Records as r
use Rattle.sound.specs.HeldRules.{held_rules}
use Rattle.sound.proofs.Backward.{start, turn, all_passed}
use Rattle.sound.proofs.has_sound_entries.Goals as goal

pub loop-h-init : goal.loop-h-init
loop-h-init c = ([], search rules, start c.args.programs.now c.args.clock)

pub loop-h-preserved : goal.loop-h-preserved
unfolding r.join
loop-h-preserved c =
    let passed = c.loop-h.invariant in
    let h = c.in-Some.h.now in (
      h ∷ passed.0,
      passed.1 ∙ ap (λ left. left ++ passed.0) c.in-Some.ensures.steps ∙ append_assoc c.next.new.self.iter.rest.now (h ∷ []) passed.0,
      turn c.args.programs.now c.args.clock h passed.0 c.is_sound_entry.ensures c.is_before.ensures passed.2,
    )

pub returns : goal.returns
returns c =
    let passed = c.loop-h.invariant in
    passed.2.kept ∙ ap (held_rules c.args.programs.now c.args.clock) (all_passed c.loop-h.h-iterator.iter.rest.now passed.0 passed.1 c.in-None.ensures.steps.0)
