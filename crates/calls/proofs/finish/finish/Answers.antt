use mathlib.Core.Path.{◌≡◌, sym, ◌∙◌, refl, ap, ap₂}
use Prim.Native.Nat.{◌≤◌, ℕ, suc, ◌+◌, ◌<◌}
use native.Mathlib.Omega.{arith}
use mathlib.Core.Bool.{Bool, true, false, cond, not}
use mathlib.Core.List.{List, [], ◌∷◌, ◌++◌, map, map-append, append-nil}
use native.Mathlib.Numerals.{add-one}
use lib.ListN.{take, length, set, length-set}
use lib.Seq.{get_or-set_same, get_or-set_other, take-suc-set, take-set-le}
use lib.Dec.{eqb, ltb}
use borrow.Author.Tests.{eqb-true, eqb-false, ltb-true, ltb-false}
use borrow.Table.Steps.{cases}
use Rattle.rules.specs.declared.Entry.{Entry}
use Rattle.rules.specs.Lists.{keep}
use Rattle.rules.specs.Records.{has, most_events}
use Rattle.calls.specs.Sets.{blank, event_at, places_to}
use Rattle.calls.specs.Slots.{Unused}
use Rattle.calls.specs.Finished.{Finished}
use Rattle.calls.proofs.Slots.{unused_lem}
use Rattle.calls.proofs.Sets.{keep_append}
use Rattle.calls.proofs.finish.finish.Invariants.{staying, ToFront}
use Rattle.calls.proofs.finish.finish.Goals.{then-not-contains, else-not-contains}
use Rattle.calls.proofs.finish.finish.Goals as goal

none-gathered : (ended : ℕ) (old : List Entry) → length old ≡ most_events → ToFront ended 0 old old 0
unfolding places_to
none-gathered ended old l = record { size = l; fewer = omega arith; front = refl; free = λ j p q. absurd (omega arith); rest = λ j h. refl }

module _ (ended d : ℕ) (old new : List Entry) (k : ℕ) (w : ToFront ended d old new k) (l : d < most_events) where
  -- one slot more
  staying-more : {out : Bool} → has ended d ≡ out → staying ended (suc d) old ≡ staying ended d old ++ cond out [] (event_at old d ∷ [])
  unfolding places_to
  staying-more {out} e =
      ap (map (event_at old)) (keep_append (λ i. not (has ended i)) (places_to d) (d ∷ []))
      ∙ map-append (event_at old) (keep (λ i. not (has ended i)) (places_to d)) (keep (λ i. not (has ended i)) (d ∷ [])) ∙ ap (λ z. staying ended d old ++ z) (rw e (go out))
    where
      go : (out : Bool) → map (event_at old) (cond (not out) (d ∷ []) []) ≡ cond out [] (event_at old d ∷ [])
      go true = refl
      go false = refl

  -- the event is taken out of its place
  abbrev out : List Entry
  out = set new d blank

  out_front : take k out ≡ take k new
  out_front = take-set-le k new d blank w.fewer

  out_free : (j : ℕ) → k ≤ j → j < suc d → event_at out j ≡ blank
  out_free j p q = cases (eqb j d)
      (λ e. rw (eqb-true j d e) (get_or-set_same new d blank blank (omega (arith, w.size))))
      (λ e. let n = eqb-false j d e in get_or-set_other new d j blank blank n ∙ w.free j p (omega arith))

  out_rest : (j : ℕ) → suc d ≤ j → event_at out j ≡ event_at old j
  out_rest j p = get_or-set_other new d j blank blank (λ q. omega arith) ∙ w.rest j (omega arith)

  dropped : has ended d ≡ true → ToFront ended (d + 1) old out k
  dropped h =
      rw (add-one d) (record {
        size = length-set new d blank ∙ w.size;
        fewer = omega (arith, w.fewer);
        front = out_front ∙ w.front ∙ sym (staying-more h ∙ append-nil _);
        free = out_free;
        rest = out_rest;
      })

  -- and comes to the front
  kept : has ended d ≡ false → ToFront ended (d + 1) old (set out k (event_at new d)) (k + 1)
  kept h =
      let x = event_at new d in
      rw (add-one d, add-one k) (record {
        size = length-set out k x ∙ length-set new d blank ∙ w.size;
        fewer = omega (arith, w.fewer);
        front = take-suc-set out k x (omega (arith, w.fewer, w.size, length-set new d blank)) ∙ ap₂ (λ f x. f ++ (x ∷ [])) (out_front ∙ w.front) (w.rest d (omega arith)) ∙ sym (staying-more h);
        free = λ j p q. get_or-set_other out k j x blank (λ z. omega arith) ∙ out_free j (omega arith) q;
        rest = λ j h. get_or-set_other out k j x blank (λ q. omega (arith, w.fewer)) ∙ out_rest j h;
      })

all-gathered : {ended n : ℕ} {old new : List Entry} {k : ℕ} → Unused n old → ToFront ended n old new k → Finished n ended old new k
all-gathered {n = n} u w = record {
  unused = record {
    used = record { few = omega (arith, w.fewer, u.used.few); size = w.size };
    none = λ j l. cases (ltb j n) (λ q. w.free j l (ltb-true j n q)) (λ q. let h = ltb-false j n q in w.rest j h ∙ u.none j h);
  };
  lasting = w.front;
}

pub loop-i-preserved : goal.loop-i-preserved
loop-i-preserved c =
    let l = c.loop-i in
    let a = c.args in
    let is = c.contains.ensures in
    let none = c.none-none.ensures ∙ sym unused_lem in
    elim c.if-not-contains.branch [
      | then-not-contains w ↦ (omega arith, rw (w.slots-is, w.k-is, none) (kept a.ended l.i a.slots.now l.slots l.k l.invariant.1 (omega arith) (sym is ∙ w.if-not-contains.true)))
      | else-not-contains w ↦ (omega arith, rw (w.slots-is, w.k-is, none) (dropped a.ended l.i a.slots.now l.slots l.k l.invariant.1 (omega arith) (sym is ∙ w.if-not-contains.false)))
    ]

pub returns : goal.returns
returns c =
    let z : c.loop-i.i ≡ c.args.n = omega arith in
    all-gathered c.requires (rw z at c.loop-i.invariant.1)

pub loop-i-init : goal.loop-i-init
loop-i-init c = (omega arith, none-gathered c.args.ended _ c.requires.used.size)
