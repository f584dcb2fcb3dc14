-- 2, 13, or the count of the held events.
use mathlib.Core.Path.{refl, sym, ◌∙◌}
use Rattle.rules.proofs.SoundState.{rules}
use Rattle.listing.proofs.Recorded.{lists_broken, lists_short}
use Rattle.listing.proofs.records.check.Goals as goal

pub returns-then-not-is_sound : goal.returns-then-not-is_sound
returns-then-not-is_sound c =
    let a = c.args in
    lists_broken a.s a.room (sym c.is_sound.ensures ∙ c.if-not-is_sound.true)

pub returns-then-room-count : goal.returns-then-room-count
returns-then-room-count c =
    let a = c.args in
    lists_short a.s (sym c.is_sound.ensures ∙ c.if-not-is_sound.false) a.room c.if-room-count.true

pub returns : goal.returns
returns c =
    let e = sym c.is_sound.ensures ∙ c.if-not-is_sound.false in
    record { unbroken = e; all = refl; few = (rules c.args.s e).count; fits = c.if-room-count.false }
