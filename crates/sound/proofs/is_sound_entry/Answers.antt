-- The rules of the definition in their order. The program is looked up only where its number is one.
use mathlib.Core.Path.{◌≡◌, refl}
use mathlib.Core.Bool.{true, false, and_assoc}
use native.Mathlib.Omega.{arith}
use borrow.Author.Tests.{lt-leb, le-leb}
use lib.Dec.{leb}
use Rattle.rules.specs.Records.{last_program, no_program}
use Rattle.rules.specs.Sound.{of_program, well_formed, sound_entry}
use Rattle.sound.proofs.is_sound_entry.Goals as goal

pub returns-in_default : goal.returns-in_default
unfolding sound_entry of_program
returns-in_default c = let none : leb c.args.h.event.program last_program ≡ false = lt-leb _ _ (omega (arith, c.in_default.ensures.lookup.3, c.told-programs)) in rw none refl

pub returns : goal.returns
unfolding sound_entry well_formed of_program
returns c =
    let e = c.in-Some.ensures.lookup in
    let one : leb c.args.h.event.program last_program ≡ true = le-leb _ _ (omega (arith, e.3.0, c.told-programs)) in
    rw (
      c.is_rightly_counted.ensures,
      c.is_rightly_held.ensures,
      c.is_in_period.ensures,
      c.is_malformed.ensures,
      one,
      ← e.3.1 no_program,
    )
    (simp and_assoc)
