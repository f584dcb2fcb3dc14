-- The rules of the held events together, which one pass tests, and what it tests of an entry against those after it.
use Rattle.std.specs.Prelude.{ℕ, Bool, true, ◌&&◌, List, eqb, ltb, Option, Some, None}
use Rattle.rules.specs.declared.Id.{Id}
use Rattle.rules.specs.declared.Program.{Program}
use Rattle.rules.specs.declared.Entry.{Entry}
use Rattle.rules.specs.Lists.{each, pairs}
use Rattle.rules.specs.Records.{id_number, id_of, cut}
use Rattle.rules.specs.Sound.{ascending, sound_entry, apart}

-- the id of the next entry, if there is one, is above that of this one
abbrev pub precedes : Option Id → Entry → Bool
precedes None h = true
precedes (Some next) h = ltb (id_of h.event) (id_number next)

-- the entry holds nothing of a mask
abbrev pub clear : ℕ → Entry → Bool
clear used h = eqb (cut h.held used) h.held

-- the last three rules of `sound`
abbrev pub held_rules : List Program → ℕ → List Entry → Bool
held_rules ps clock hs = pairs ascending hs && (each (sound_entry ps clock) hs && pairs apart hs)
