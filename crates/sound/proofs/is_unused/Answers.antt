-- The entry is compared with the unused one.
use mathlib.Core.Path.{ap, ◌∙◌}
use Rattle.rules.proofs.Same.{entries_equal, equal_unused}
use Rattle.sound.proofs.is_unused.Goals as goal

pub returns : goal.returns
returns c = let h = c.args.h in c.eq.ensures ∙ ap (entries_equal h) c.none.ensures ∙ equal_unused h
