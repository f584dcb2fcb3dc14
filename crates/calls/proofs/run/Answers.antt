-- 2, or the run on a sound schedule.
use mathlib.Core.Path.{sym, ◌∙◌}
use Rattle.calls.specs.Lines.{run_outcome}
use Rattle.calls.proofs.run.Goals as goal

pub run-requires : goal.run-requires
run-requires c = cc

pub returns-then-is_sound : goal.returns-then-is_sound
unfolding run_outcome
returns-then-is_sound c = rw (sym c.is_sound.ensures ∙ c.if-is_sound.true) c.run.ensures

pub returns : goal.returns
unfolding run_outcome
returns c = rw (sym c.is_sound.ensures ∙ c.if-is_sound.false)
