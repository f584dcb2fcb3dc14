-- First the rules, then the length of the buffer.
use mathlib.Core.Path.{sym, ◌∙◌}
use Rattle.hadulmir.specs.Outcomes.{store_outcome}
use Rattle.hadulmir.proofs.Facing.{written_as}
use Rattle.hadulmir.proofs.store.Goals as goal

pub returns-then-write : goal.returns-then-write
unfolding store_outcome
returns-then-write c =
    let a = c.args in
    let p = written_as a.s a.out.now c.write.ensures in
    rw (sym c.is_sound.ensures ∙ c.if-is_sound.true, sym p.fits ∙ c.if-write.true, p.leaves, c.if-write.true, c.from.ensures)

pub returns-else-write : goal.returns-else-write
unfolding store_outcome
returns-else-write c =
    let a = c.args in
    let p = written_as a.s a.out.now c.write.ensures in
    rw (sym c.is_sound.ensures ∙ c.if-is_sound.true, sym p.fits ∙ c.if-write.false, p.leaves, c.if-write.false)

pub returns-else-is_sound : goal.returns-else-is_sound
unfolding store_outcome
returns-else-is_sound c = rw (sym c.is_sound.ensures ∙ c.if-is_sound.false)
