-- Each rule is tested by the function for it. That the arrays have their places is known of every schedule given by value.
use mathlib.Core.Path.{◌≡◌}
use mathlib.Core.Bool.{true, and-false}
use Prim.Native.Nat.{◌≤◌}
use native.Mathlib.Omega.{arith}
use borrow.Author.Tests.{leb-true}
use lib.Dec.{leb}
use Rattle.rules.specs.Records.{last_clock, most_events}
use Rattle.rules.proofs.Tests.{each_true}
use Rattle.rules.specs.Sound.{within_limits, sound_program, unused, sound}
use Rattle.rules.proofs.Lengths.{lengths, whole_always}
use Rattle.rules.proofs.ListLaws.{all_is_each}
use Rattle.sound.proofs.is_sound.Goals as goal

pub split_at-requires : goal.split_at-requires
split_at-requires c =
    let s = c.args.s in
    let few : s.count ≤ most_events = leb-true s.count most_events (each_true (leb s.clock last_clock) (leb s.count most_events) c.if-s.true).1 in
    omega (arith, few, (lengths s _ c.well_formed.0).entries)

pub returns-then-s : goal.returns-then-s
unfolding sound within_limits
returns-then-s c =
    let s = c.args.s in
    let within : within_limits s ≡ true = c.if-s.true in
    rw (
      c.has_sound_entries.ensures,
      c.has_unused_rest.ensures,
      c.has_sound_programs.ensures,
      all_is_each sound_program s.programs,
      all_is_each unused c.split_at.result.1.now,
      c.split_at.ensures.front,
      c.split_at.ensures.back,
      whole_always s _ c.well_formed.0,
      within,
    )

pub returns : goal.returns
unfolding sound within_limits
returns c = simp (c.if-s.false, and-false)
