use mathlib.Core.Path.{◌≡◌, refl, sym, ap, ◌∙◌}
use mathlib.Core.Logic.{⊎_elim}
use native.Mathlib.Omega.{arith}
use native.Mathlib.Nat.{one-mul}
use lib.ListN.{length, get_or, take}
use lib.Seq.{get_or-take, length-take-le}
use lib.Pow.{shl_exact}
use Rattle.rules.proofs.Masks.{not_has}
use Rattle.calls.specs.Sets.{blank, mask_at}
use Rattle.calls.proofs.Sets.{set_more, set_skip}
use Rattle.calls.proofs.clock.holders.Goals as goal

pub loop-i-init : goal.loop-i-init
loop-i-init c i = (λ e. not_has 0 i refl e, λ q. absurd (omega (arith, q.0)))

pub loop-i-preserved : goal.loop-i-preserved
loop-i-preserved c =
    let l = c.loop-i in
    let a = c.args in
    let w = a.slots.now in
    let long : length (take a.n w) ≡ a.n = length-take-le a.n w (omega (arith, c.requires.few, c.requires.size)) in
    let at : (get_or (take a.n w) l.i blank).held ≡ mask_at w l.i = ap (λ h. h.held) (get_or-take a.n w l.i blank (omega (arith, long))) in
    ⊎_elim
    (λ u. rw (u.set-is, shl_exact {a = 1} 1 l.i 64 (omega arith) (omega (arith, c.requires.few)), one-mul) (set_more (λ i. mask_at w i ≡ 0 → ⊥) l.i l.set l.invariant (λ z. u.if-h-ne0.true (at ∙ z))))
    (λ u. rw u.set-is (set_skip (λ i. mask_at w i ≡ 0 → ⊥) l.i l.set l.invariant (λ z. z (sym at ∙ u.if-h-ne0.false))))
    c.if-h-ne0.branch-raw

pub returns : goal.returns
returns c =
    let long = length-take-le c.args.n c.args.slots.now (omega (arith, c.requires.few, c.requires.size)) in
    let z : c.loop-i.i ≡ c.args.n = omega (arith, long) in
    rw z at c.loop-i.invariant
