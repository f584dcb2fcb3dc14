-- 11 if the id is not held. Else the event in its slot is stopped, and the answer says whether it was before.
use mathlib.Core.Path.{◌≡◌, refl, sym, ap, ◌∙◌}
use mathlib.Core.Bool.{Bool, true, false, cond}
use mathlib.Core.List.{[], map}
use mathlib.Core.Option.{some}
use Prim.Native.Nat.{ℕ}
use native.Mathlib.Omega.{arith}
use Rattle.rules.specs.declared.Reply.{Reply}
use Rattle.rules.specs.declared.Reply.TheVariants.{Code}
use Rattle.rules.specs.declared.Refusal.TheVariants.{NotHeld}
use Rattle.std.specs.Prelude.{Ok}
use Rattle.rules.specs.Refusals.{find, held_checks}
use Rattle.rules.specs.Calls.{cancel, code, with_entries, mark, cancel_code, does, checks, call}
use Rattle.rules.specs.declared.Schedule.{Schedule}
use Rattle.rules.specs.Records.{view, id_number}
use Rattle.rules.specs.Sound.{sound}
use Rattle.calls.specs.Answered.{told}
use Rattle.calls.specs.Sets.{event_at}
use Rattle.calls.specs.Found.{Bears}
use Rattle.calls.proofs.Slots.{slot_at, fits}
use Rattle.calls.proofs.Placing.{stopped, marks_one}
use Rattle.calls.proofs.Acting.{with_event, kept, refuses, held, free, inside, changes}
use Rattle.calls.proofs.events.cancel.Goals as goal

-- the answer's code is that of the definition
coded : (m : Bool) → code (cond m 0 6) ≡ cond m (code 0) (code 6)
coded true = refl
coded false = refl

-- the event in its place is stopped there
marks : (s : Schedule) → sound s ≡ true → {i at : ℕ} → Bears (view s).entries i at → {m : Bool} → (event_at s.entries at).cancelled ≡ m → {r : Reply} → r ≡ Code (cond m 0 6)
    → told (Ok r) (with_event s at (stopped (event_at s.entries at))) ≡ call s (cancel i)
unfolding does checks held_checks
marks s e {i} {at} f {m} q {r} p =
    let old = held s e f in
    let same = slot_at s.entries s.count (fits s e) at (inside s e f).0 in
    let value : cancel_code (find i (view s).entries) ≡ code (cond m 0 6) =
    ap cancel_code old ∙ ap (λ o. cancel_code (some o)) same ∙ ap (λ m. cond m (code 0) (code 6)) q ∙ sym (coded m) in
    ap (λ (r : Reply). told (Ok r) (with_event s at (stopped (event_at s.entries at)))) p ∙ changes s e marks_one f (cancel i) (cond m 0 6) (rw old)
    (ap (λ v. record { state = with_entries (view s) (map (mark i) (view s).entries); value = v; bytes = []; records = [] }) value)

pub returns-in_default : goal.returns-in_default
unfolding checks held_checks
returns-in_default c =
    refuses c.args.s.now.schedule c.args.s.now.good (cancel (id_number c.args.id)) NotHeld refl refl (rw (free c.args.s.now.schedule c.args.s.now.good (rw c.in_default.is at c.place_of.ensures)))

pub invariant_of-s : goal.invariant_of-s
invariant_of-s c =
    let s = c.args.s.now in
    record { good = kept s.schedule s.good (cancel (id_number c.args.id)) (marks s.schedule s.good (rw c.in-Ok.is at c.place_of.ensures) refl refl) }

pub returns-then-before : goal.returns-then-before
returns-then-before c =
    marks c.args.s.now.schedule c.args.s.now.good (rw c.in-Ok.is at c.place_of.ensures) c.if-before.true c.from.ensures

pub returns : goal.returns
returns c =
    marks c.args.s.now.schedule c.args.s.now.good (rw c.in-Ok.is at c.place_of.ensures) c.if-before.false c.from-2.ensures

pub offset_bounds-s-at : goal.offset_bounds-s-at
offset_bounds-s-at c = omega (arith, inside c.args.s.now.schedule c.args.s.now.good (rw c.in-Ok.is at c.place_of.ensures))

pub bounds-s-at : goal.bounds-s-at
bounds-s-at c = omega (arith, inside c.args.s.now.schedule c.args.s.now.good (rw c.in-Ok.is at c.place_of.ensures))

pub offset_bounds-s-at-2 : goal.offset_bounds-s-at-2
offset_bounds-s-at-2 c = omega (arith, inside c.args.s.now.schedule c.args.s.now.good (rw c.in-Ok.is at c.place_of.ensures))

pub bounds-s-at-2 : goal.bounds-s-at-2
bounds-s-at-2 c = omega (arith, inside c.args.s.now.schedule c.args.s.now.good (rw c.in-Ok.is at c.place_of.ensures))
