-- 11 if the id is not held. Else the event in its slot has the choice, and the answer says whether it had it before.
use mathlib.Core.Path.{◌≡◌, refl, sym, ap, ◌∙◌}
use mathlib.Core.Bool.{Bool, true, false, cond}
use mathlib.Core.List.{[], map}
use Prim.Native.Nat.{ℕ}
use native.Mathlib.Omega.{arith}
use Rattle.rules.specs.declared.Reply.{Reply}
use Rattle.rules.specs.declared.Reply.TheVariants.{Code}
use Rattle.rules.specs.declared.Refusal.TheVariants.{NotHeld}
use Rattle.std.specs.Prelude.{Ok}
use Rattle.rules.specs.declared.Schedule.{Schedule}
use Rattle.rules.specs.Sound.{sound}
use Rattle.rules.specs.Records.{view, differ, id_number}
use Rattle.rules.specs.Refusals.{find, held_checks}
use Rattle.rules.specs.Calls.{call, choose, code, with_entries, decide, choice_code, does, checks}
use Rattle.calls.specs.Answered.{told}
use Rattle.calls.specs.Found.{Bears}
use Rattle.calls.specs.Sets.{event_at, chosen}
use Rattle.calls.proofs.Slots.{slot_at, fits}
use Rattle.calls.proofs.Placing.{decides_one}
use Rattle.calls.proofs.Acting.{with_event, kept, refuses, held, free, inside, changes}
use Rattle.calls.proofs.events.choose.Goals as goal

-- the answer's code is that of the definition
coded : (d out : Bool) → code (cond d (cond out 4 5) 0) ≡ cond d (cond out (code 4) (code 5)) (code 0)
coded true true = refl
coded true false = refl
coded false out = refl

-- the event in its place has the choice
decides : (s : Schedule) → sound s ≡ true → {i at : ℕ} → Bears (view s).entries i at → (out : Bool) {k : ℕ}
    → k ≡ cond (differ (event_at s.entries at).choice.out out) (cond out 4 5) 0 → {r : Reply} → r ≡ Code k → told (Ok r) (with_event s at (chosen (event_at s.entries at) out)) ≡ call s (choose i out)
unfolding does checks held_checks
decides s e {i} {at} f out {k} is {r} p =
    let old = held s e f in
    let same = slot_at s.entries s.count (fits s e) at (inside s e f).0 in
    let before = ap (λ h. h.choice.out) same in
    let value : choice_code out (find i (view s).entries) ≡ code k =
    ap (choice_code out) old ∙ ap (λ o. cond (differ o out) (cond out (code 4) (code 5)) (code 0)) before ∙ sym (ap code is ∙ coded (differ (event_at s.entries at).choice.out out) out) in
    ap (λ r. told (Ok r) (with_event s at (chosen (event_at s.entries at) out))) p ∙ changes s e (decides_one out) f (choose i out) k (rw old)
    (ap (λ v. record { state = with_entries (view s) (map (decide i out) (view s).entries); value = v; bytes = []; records = [] }) value)

pub returns-in_default : goal.returns-in_default
unfolding checks held_checks
returns-in_default c =
    let a = c.args in
    refuses a.s.now.schedule a.s.now.good (choose (id_number a.id) a.out) NotHeld refl refl (rw (free a.s.now.schedule a.s.now.good (rw c.in_default.is at c.place_of.ensures)))

pub invariant_of-s : goal.invariant_of-s
invariant_of-s c =
    let a = c.args in
    let s = a.s.now in
    record { good = kept s.schedule s.good (choose (id_number a.id) a.out) (decides s.schedule s.good (rw c.in-Ok.is at c.place_of.ensures) a.out c.choice_code-code.ensures refl) }

pub returns : goal.returns
returns c =
    let s = c.args.s.now in
    decides s.schedule s.good (rw c.in-Ok.is at c.place_of.ensures) c.args.out c.choice_code-code.ensures c.from.ensures

pub offset_bounds-s-at : goal.offset_bounds-s-at
offset_bounds-s-at c = omega (arith, inside c.args.s.now.schedule c.args.s.now.good (rw c.in-Ok.is at c.place_of.ensures))

pub bounds-s-at : goal.bounds-s-at
bounds-s-at c = omega (arith, inside c.args.s.now.schedule c.args.s.now.good (rw c.in-Ok.is at c.place_of.ensures))

pub offset_bounds-s-at-2 : goal.offset_bounds-s-at-2
offset_bounds-s-at-2 c = omega (arith, inside c.args.s.now.schedule c.args.s.now.good (rw c.in-Ok.is at c.place_of.ensures))

pub bounds-s-at-2 : goal.bounds-s-at-2
bounds-s-at-2 c = omega (arith, inside c.args.s.now.schedule c.args.s.now.good (rw c.in-Ok.is at c.place_of.ensures))
