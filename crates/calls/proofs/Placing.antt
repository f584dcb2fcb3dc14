-- The place of an id tells what is held under it; and slots with an event put in or marked at its place.
use mathlib.Core.Path.{◌≡◌, refl, sym, ap, ◌∙◌}
use mathlib.Core.Logic.{inl, inr}
use mathlib.Core.Bool.{Bool, true}
use mathlib.Core.List.{List, [], ◌∷◌, ◌++◌, map}
use mathlib.Core.Option.{none, some}
use Prim.Native.Nat.{ℕ, zero, suc, ◌<◌, ◌+◌, ◌-◌, ◌≤◌}
use native.Mathlib.Omega.{arith}
use borrow.Author.Tests.{eq-eqb, ne_eqb, lt-ltb, le-ltb}
use lib.ListN.{get_or, length, take, drop, set, length-append, length-drop, take-append-drop}
use lib.Seq.{get_or-append_right, get_or-drop, take-take, take_at, take-set-lt, length-take-le}
use Rattle.rules.specs.declared.Entry.{Entry}
use Rattle.rules.specs.Lists.{All, Pairwise, insert}
use Rattle.rules.specs.Records.{no_entry}
use Rattle.rules.specs.Refusals.{find}
use Rattle.rules.specs.Calls.{entry_id, mark, decide}
use Rattle.calls.specs.Sets.{blank, chosen}
use Rattle.rules.proofs.SoundState.{ById}
use Rattle.rules.proofs.ListLaws.{map_same}
use Rattle.rules.proofs.Kept.{find_none}
use Rattle.calls.specs.Found.{PlaceOf, Bears, Free, CanOpen, widened}
use Rattle.calls.specs.Slots.{Unused}
use Rattle.calls.proofs.Slots.{at_in, in_slots}

-- What is held under an id.

module _ (i : ℕ) where
  -- the place as those behind the first entry have it
  pub behind : (x : Entry) (xs : List Entry) (k : ℕ) → PlaceOf (x ∷ xs) i (suc k) → PlaceOf xs i k
  behind x xs k p = record {
    within = omega (arith, p.within);
    below = λ j l. p.below (suc j) (omega arith);
    from = λ l. p.from (omega arith);
  }

  find_above : (hs : List Entry) → All (λ h. i < entry_id h) hs → find i hs ≡ none
  unfolding find
  find_above [] a = refl
  find_above (x ∷ xs) a = rw (ne_eqb (entry_id x) i (λ e. let l = a x (inl refl) in omega arith)) (find_above xs (λ h m. a h (inr m)))

  -- so it is found there
  pub find_held : (hs : List Entry) (at : ℕ) → Pairwise ById hs → Bears hs i at → find i hs ≡ some (get_or hs at no_entry)
  unfolding find
  find_held [] at s p = absurd (omega (arith, p.within))
  find_held (x ∷ xs) zero s p = rw (eq-eqb (entry_id x) i p.same)
  find_held (x ∷ xs) (suc k) s p =
      let l = p.placed.below 0 (omega arith) in
      rw (ne_eqb (entry_id x) i (λ e. omega arith)) (find_held xs k s.1 (record { placed = behind x xs k p.placed; within = omega (arith, p.within); same = p.same }))

  -- or nowhere
  pub find_free : (hs : List Entry) (at : ℕ) → Pairwise ById hs → Free hs i at → find i hs ≡ none
  unfolding find
  find_free [] at s p = refl
  find_free (x ∷ xs) zero s p =
      let l = p.placed.from (omega arith) in
      let d = p.none (omega arith) in
      rw (ne_eqb (entry_id x) i d) (find_above xs (λ h m. let o = s.0 h m in omega arith))
  find_free (x ∷ xs) (suc k) s p =
      let l = p.placed.below 0 (omega arith) in
      rw (ne_eqb (entry_id x) i (λ e. omega arith)) (find_free xs k s.1 (record { placed = behind x xs k p.placed; none = λ m. p.none (omega arith) }))

-- An event put in, or marked.

-- an entry goes in at the place of its id
insert_at : (a : Entry) (front back : List Entry) → PlaceOf (front ++ back) (entry_id a) (length front) → All (λ h. entry_id h ≡ entry_id a → ⊥) (front ++ back)
    → insert entry_id a (front ++ back) ≡ front ++ (a ∷ back)
insert_at a [] [] p n = refl
insert_at a [] (x ∷ back) p n = let d = n x (inl refl) in rw (lt-ltb (entry_id a) (entry_id x) (omega (arith, p.from (omega arith))))
insert_at a (x ∷ front) back p n =
    rw (le-ltb (entry_id a) (entry_id x) (omega (arith, p.below 0 (omega arith))))
    (ap (◌∷◌ x) (insert_at a front back (behind (entry_id a) x (front ++ back) (length front) p) (λ h m. n h (inr m))))

-- What is done to the event under an id.

-- a change that leaves the entries under other ids alone, and what it makes of the one under the id
pub record OfOne (change : ℕ → Entry → Entry) (done : Entry → Entry) : Type 0 where
  pub others : (i : ℕ) (h : Entry) → (entry_id h ≡ i → ⊥) → change i h ≡ h
  pub own : (h : Entry) → change (entry_id h) h ≡ done h

-- an entry with its mark set and nothing held
abbrev pub stopped : Entry → Entry
stopped h = record { event = h.event; begins = h.begins; held = 0; cancelled = true; choice = h.choice }

pub marks_one : OfOne mark stopped
marks_one = record { others = λ i h d. rw (ne_eqb (entry_id h) i d); own = λ h. rw (eq-eqb (entry_id h) (entry_id h) refl) }

pub decides_one : (out : Bool) → OfOne (λ i. decide i out) (λ h. chosen h out)
decides_one out = record { others = λ i h d. rw (ne_eqb (entry_id h) i d); own = λ h. rw (eq-eqb (entry_id h) (entry_id h) refl) }

-- one entry is changed, since the ids differ
change_at : {change : ℕ → Entry → Entry} {done : Entry → Entry} → OfOne change done → (hs : List Entry) (at : ℕ) → Pairwise ById hs → at < length hs
    → map (change (entry_id (get_or hs at no_entry))) hs ≡ set hs at (done (get_or hs at no_entry))
change_at o [] at s l = absurd (omega arith)
change_at {change} o (x ∷ xs) zero s l =
    rw (o.own x, map_same (change (entry_id x)) xs (λ h m. o.others (entry_id x) h (λ e. omega (arith, s.0 h m))))
change_at o (x ∷ xs) (suc k) s l =
    let b = s.0 (get_or xs k no_entry) (at_in no_entry xs k (omega arith)) in
    rw (o.others (entry_id (get_or xs k no_entry)) x (λ e. omega arith)) (ap (◌∷◌ x) (change_at o xs k s.1 (omega arith)))

module _ (w : List Entry) (n : ℕ) where
  abbrev hs : List Entry
  hs = take n w

  in_front : n < length w → (x : Entry) (at : ℕ) → at ≤ n → length (take at w ++ (x ∷ drop at hs)) ≡ n + 1
  in_front l x at h =
      let front = length-take-le at w (omega arith) in
      let back = length-drop at hs ∙ ap (λ k. k - at) (length-take-le n w (omega arith)) in
      length-append (take at w) (x ∷ drop at hs) ∙ omega arith

  pub put_in_long : n < length w → (x : Entry) (at : ℕ) → at ≤ n → length (widened w n at x) ≡ length w
  put_in_long l x at h =
      let front = in_front l x at h in
      length-append (take at w ++ (x ∷ drop at hs)) (drop (n + 1) w) ∙ omega (arith, length-drop (n + 1) w)

  -- behind them there are still none
  pub put_in_unused : Unused n w → {at : ℕ} → CanOpen at n w → (x : Entry) → Unused (n + 1) (widened w n at x)
  put_in_unused u {at} o x =
      let front = take at w ++ (x ∷ drop at hs) in
      let size : length front ≡ n + 1 = in_front (omega (arith, o.room, o.size)) x at o.within in
      record {
        used = record { few = omega (arith, o.room); size = put_in_long (omega (arith, o.room, o.size)) x at o.within ∙ o.size };
        none = λ j l.
            get_or-append_right front (drop (n + 1) w) j blank (omega (arith, size)) ∙ get_or-drop (n + 1) w (j - length front) blank
            ∙ u.none (n + 1 + (j - length front)) (omega arith);
      }

  -- the events in use are those before with that in the slot
  pub put_in : n < length w → (a : Entry) (at : ℕ) → PlaceOf hs (entry_id a) at → find (entry_id a) hs ≡ none
      → take (n + 1) (widened w n at a) ≡ insert entry_id a hs
  put_in l a at p f =
      let short : at ≤ n = omega (arith, p.within, in_slots w n (omega arith)) in
      let front = take at hs in
      let back = drop at hs in
      let all : front ++ back ≡ hs = take-append-drop at hs in
      let size : length front ≡ at = in_slots hs at (omega (arith, length-take-le n w (omega arith))) in
      rw (take_at (take at w ++ (a ∷ back)) (drop (n + 1) w) (n + 1) (in_front l a at short), ← take-take at n w short)
      (sym (insert_at a front back (rw size (rw (sym all) at p)) (find_none (entry_id a) (front ++ back) (rw (sym all) at f))) ∙ ap (insert entry_id a) all)

  -- a slot with the event in it changed is the list with that event changed
  pub put_over : {change : ℕ → Entry → Entry} {done : Entry → Entry} → OfOne change done → n ≤ length w → (at : ℕ) → at < n → Pairwise ById hs
      → take n (set w at (done (get_or hs at no_entry))) ≡ map (change (entry_id (get_or hs at no_entry))) hs
  put_over {done = done} o r at l s =
      take-set-lt n w at (done (get_or hs at no_entry)) l ∙ sym (change_at o hs at s (omega (arith, in_slots w n r)))
