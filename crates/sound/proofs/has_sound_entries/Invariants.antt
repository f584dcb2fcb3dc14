-- A pass from the back: the variables say what they have to of the entries passed, and a turn adds the one before them.
use Rattle.std.specs.Prelude.{◌≡◌, List, ◌++◌}
use Rattle.rules.specs.declared.Entry.{Entry}
use Rattle.sound.proofs.Backward.{EntriesPassed}
use Rattle.sound.proofs.has_sound_entries.Given as goal

abbrev pub invariant-loop-h : goal.invariant-loop-h
invariant-loop-h l = (passed : List Entry) × (l.held ≡ l.h-iterator.iter.rest.now ++ passed) × EntriesPassed l.programs l.clock passed l.ok l.used l.next
