-- Many seconds at once: seconds in which nothing begins or ends change the clock and the marks of choices alone, and an advance may be cut anywhere.
use mathlib.Core.Path.{◌≡◌, refl, sym, ap, ap₂, ◌∙◌, subst}
use mathlib.Core.Logic.{◌⊎◌, inl, inr, ⊎_elim}
use Prim.Native.Nat.{ℕ, zero, suc, ◌+◌, ◌-◌, ◌<◌, ◌≤◌, min}
use mathlib.Core.Bool.{Bool, true, false, cond, not, ◌&&◌, ◌||◌}
use mathlib.Core.List.{List, [], ◌∷◌, ◌++◌, map, map-map, append_assoc}
use native.Mathlib.Omega.{arith}
use lib.Dec.{ltb, leb, eqb}
use borrow.Author.Tests.{ltb-true, leb-true, leb-false, eqb-false}
use Rattle.rules.specs.declared.Entry.{Entry}
use Rattle.rules.specs.Lists.{each, In, All}
use Rattle.rules.specs.Records.{State, last_clock}
use Rattle.rules.specs.Holding.{end_of, carry, with_holding, remarked}
use Rattle.rules.specs.Moments.{Moved, second, advance}
use Rattle.rules.specs.Clauses.{busy}
use Rattle.rules.proofs.Tests.{either_false, each_true}
use Rattle.rules.proofs.ListLaws.{each_all, all_map, map_cong}
use Rattle.rules.proofs.Quiet.{Resting, quiet}
use Rattle.rules.proofs.SoundState.{Sound}
use Rattle.rules.proofs.SoundKept.{sound_second, sound_advance}

-- the first of n seconds sets the marks of choices, and the others set no more
abbrev pub marks_in : ℕ → List Entry → List Entry
marks_in zero hs = hs
marks_in (suc n) hs = map remarked hs

-- the clock and the marks alone, n seconds on
abbrev pub later : ℕ → State → State
later n s = record { clock = s.clock + n; programs = s.programs; entries = marks_in n s.entries }

-- a second that is like the one before sets no more
pub carried_twice : (h : Entry) (m : ℕ) → remarked (with_holding h (carry h m)) ≡ with_holding h (carry h m)
carried_twice h m = λ i. record {
  event = h.event;
  begins = h.begins;
  held = m;
  cancelled = h.cancelled;
  choice = record {
    out = h.choice.out;
    was_in = twice h.choice.was_in (not (eqb m 0) && not h.choice.out) i;
    was_out = twice h.choice.was_out (not (eqb m 0) && h.choice.out) i;
  };
}
  where
    twice : (a b : Bool) → ((a || b) || b) ≡ (a || b)
    twice true b = refl
    twice false true = refl
    twice false false = refl

marks_again : (n : ℕ) (hs : List Entry) → marks_in n (map remarked hs) ≡ map remarked hs
marks_again zero hs = refl
marks_again (suc n) hs = map-map remarked remarked hs ∙ map_cong (λ h. remarked (remarked h)) remarked hs (λ h m. carried_twice h h.held)

abbrev still : ℕ → State → Moved
still n s = record { state = later n s; rows = [] }

-- one advance and then another
abbrev pub onward : Moved → Moved → Moved
onward m k = record { state = k.state; rows = m.rows ++ k.rows }

pub advance_add : (m n : ℕ) (s : State) → advance (m + n) s ≡ onward (advance m s) (advance n (advance m s).state)
unfolding advance
advance_add zero n s = let e : 0 + n ≡ n = omega arith in ap (λ k. advance k s) e
advance_add (suc m) n s =
    let e : suc m + n ≡ suc (m + n) = omega arith in
    ap (λ k. advance k s) e
    ∙ ap (λ k. onward (second s) k) (advance_add m n (second s).state)
    ∙ ap (λ rs. record { state = (advance n (advance (suc m) s).state).state; rows = rs })
    (sym (append_assoc (second s).rows (advance m (second s).state).rows (advance n (advance (suc m) s).state).rows))

-- an entry neither begins nor ends in the n seconds after the clock; a cancelled one never begins
pub record Idle (c n : ℕ) (h : Entry) : Type 0 where
  pub begins : h.cancelled ≡ false → (h.begins ≤ c) ⊎ (c + n < h.begins)
  pub ends : c + n < end_of h

resting : (s : State) → Sound s → (n : ℕ) → All (Idle s.clock (suc n)) s.entries → All (Resting s.clock) s.entries
resting s v n i h m =
    let q = v.entries h m in
    let r = i h m in
    record {
      lasting = q.lasts;
      early = q.early;
      stopped = q.stopped;
      not_begin = λ p e. ⊎_elim (λ l. omega arith) (λ l. omega arith) (r.begins p);
      not_end = λ e. omega (arith, r.ends);
    }

pub idle : (n : ℕ) (s : State) → Sound s → s.clock + n ≤ last_clock → All (Idle s.clock n) s.entries → advance n s ≡ still n s
unfolding advance
idle zero s v l i = let e : s.clock ≡ s.clock + 0 = omega arith in ap (λ c. record { state = record { clock = c; programs = s.programs; entries = s.entries }; rows = [] }) e
idle (suc n) s v l i =
    let one : second s ≡ record { state = record { clock = suc s.clock; programs = s.programs; entries = map remarked s.entries }; rows = [] } = quiet s v.apart (resting s v n i) in
    let next : Sound (second s).state = sound_second s v (omega arith) in
    let there : s.clock + suc n ≡ suc s.clock + n = omega arith in
    ap (λ o. onward o (advance n o.state)) one
    ∙ idle n (record { clock = suc s.clock; programs = s.programs; entries = map remarked s.entries }) (subst (λ o. Sound o.state) one next) (omega arith)
    (all_map (Idle (suc s.clock) n) remarked s.entries (λ h m. record { begins = λ p. ⊎_elim (λ b. inl (omega arith)) (λ b. inr (omega arith)) ((i h m).begins p); ends = omega (arith, (i h m).ends) }))
    ∙ ap₂ (λ c hs. record { state = record { clock = c; programs = s.programs; entries = hs }; rows = [] }) (sym there) (marks_again n s.entries)

-- the same as a test
unfoldable pub idle_for : ℕ → ℕ → Entry → Bool
idle_for c n h = (leb h.begins c || ltb (c + n) h.begins) && ltb (c + n) (end_of h)

pub idle_for_lem : (c n : ℕ) (h : Entry) → idle_for c n h ≡ true → Idle c n h
unfolding idle_for
idle_for_lem c n h e =
    let r = each_true (leb h.begins c || ltb (c + n) h.begins) (ltb (c + n) (end_of h)) e in
    record { begins = λ p. go (leb h.begins c) refl r.0; ends = ltb-true (c + n) (end_of h) r.1 }
  where
    go : (b : Bool) → leb h.begins c ≡ b → (b || ltb (c + n) h.begins) ≡ true → (h.begins ≤ c) ⊎ (c + n < h.begins)
    go true p q = inl (leb-true h.begins c p)
    go false p q = inr (ltb-true (c + n) h.begins q)

-- nothing begins or ends at the next second
idle_next : (c : ℕ) (hs : List Entry) → busy (suc c) hs ≡ false → All (λ h. c < end_of h) hs → All (Idle c 1) hs
unfolding busy
idle_next c [] e l h m = elim m [ ]
idle_next c (x ∷ xs) e l h m =
    let p = either_false (eqb x.begins (suc c)) (eqb (end_of x) (suc c) || busy (suc c) xs) e in
    let q = either_false (eqb (end_of x) (suc c)) (busy (suc c) xs) p.1 in
    go (eqb-false x.begins (suc c) p.0) (eqb-false (end_of x) (suc c) q.0) (λ n. idle_next c xs q.1 (λ y k. l y (inr k)) h n) m
  where
    go : (x.begins ≡ suc c → ⊥) → (end_of x ≡ suc c → ⊥) → (In h xs → Idle c 1 h) → In h (x ∷ xs) → Idle c 1 h
    go u w ih (inl d) = subst (Idle c 1) (sym d) (record { begins = λ p. apart (leb x.begins c) refl; ends = let k = l x (inl refl) in omega arith })
      where
        apart : (b : Bool) → leb x.begins c ≡ b → (x.begins ≤ c) ⊎ (c + 1 < x.begins)
        apart true f = inl (leb-true x.begins c f)
        apart false f = inr (let k = leb-false x.begins c f in omega arith)
    go u w ih (inr n) = ih n

pub quiet_second : (s : State) → Sound s → busy (suc s.clock) s.entries ≡ false
    → second s ≡ record { state = record { clock = suc s.clock; programs = s.programs; entries = map remarked s.entries }; rows = [] }
quiet_second s v e = quiet s v.apart (resting s v 0 (idle_next s.clock s.entries e (λ h m. (v.entries h m).lasts)))

-- The next moment at which an entry begins or ends, at most the limit.

abbrev sooner : ℕ → ℕ → ℕ → ℕ
sooner c x m = cond (ltb c x) (min x m) m

unfoldable pub next_moment : ℕ → ℕ → List Entry → ℕ
next_moment c limit [] = limit
next_moment c limit (h ∷ hs) = sooner c h.begins (sooner c (end_of h) (next_moment c limit hs))

-- to a reading, from one such moment to the next; where a step is not right, plainly
unfoldable pub jumps : ℕ → ℕ → State → Moved
jumps zero limit s = advance (limit - s.clock) s
jumps (suc fuel) limit s =
    let t = next_moment s.clock limit s.entries in
    let n = t - suc s.clock in
    elim (ltb s.clock t && (leb t limit && each (idle_for s.clock n) s.entries)) [
      | true ↦ onward (second (later n s)) (jumps fuel limit (second (later n s)).state)
      | false ↦ advance (limit - s.clock) s
    ]

module _ (s : State) (v : Sound s) (n : ℕ) (l : s.clock + n ≤ last_clock) (i : All (Idle s.clock n) s.entries) where
  sound_later : Sound (later n s)
  sound_later = subst (λ m. Sound m.state) (idle n s v l i) (sound_advance n s v l)

  -- n seconds in which nothing happens, one more, and then the rest
  step : (limit : ℕ) → suc (s.clock + n) ≤ limit
      → onward (second (later n s)) (advance (limit - suc (s.clock + n)) (second (later n s)).state) ≡ advance (limit - s.clock) s
  unfolding advance
  step limit k =
      let rest = limit - suc (s.clock + n) in
      let e : limit - s.clock ≡ n + suc rest = omega arith in
      sym (ap (λ d. advance d s) e ∙ advance_add n (suc rest) s ∙ ap (λ m. onward m (advance (suc rest) m.state)) (idle n s v l i))

pub jumps_advance : (fuel limit : ℕ) (s : State) → Sound s → limit ≤ last_clock → jumps fuel limit s ≡ advance (limit - s.clock) s
unfolding jumps second
jumps_advance zero limit s v l = refl
jumps_advance (suc fuel) limit s v l =
    go (λ w. jumps_advance fuel limit (second (later n s)).state w l) (ltb s.clock t && (leb t limit && each (idle_for s.clock n) s.entries)) refl
  where
    t : ℕ
    t = next_moment s.clock limit s.entries

    n : ℕ
    n = t - suc s.clock

    after : (Sound (second (later n s)).state → jumps fuel limit (second (later n s)).state ≡ advance (limit - suc (s.clock + n)) (second (later n s)).state) → suc (s.clock + n) ≤ limit → All (Idle s.clock n) s.entries
        → onward (second (later n s)) (jumps fuel limit (second (later n s)).state) ≡ advance (limit - s.clock) s
    after ih k i =
        let u : s.clock + n ≤ last_clock = omega arith in
        let w : suc (s.clock + n) ≤ last_clock = omega arith in
        ap (onward (second (later n s))) (ih (sound_second (later n s) (sound_later s v n u i) w))
        ∙ step s v n u i limit k

    go : (Sound (second (later n s)).state → jumps fuel limit (second (later n s)).state ≡ advance (limit - suc (s.clock + n)) (second (later n s)).state) → (b : Bool) → (ltb s.clock t && (leb t limit && each (idle_for s.clock n) s.entries)) ≡ b
        → elim b as (λ b. Moved) [ true ↦ onward (second (later n s)) (jumps fuel limit (second (later n s)).state) | false ↦ advance (limit - s.clock) s ] ≡ advance (limit - s.clock) s
    go ih false e = refl
    go ih true e =
        let p = each_true (ltb s.clock t) _ e in
        let q = each_true (leb t limit) (each (idle_for s.clock n) s.entries) p.1 in
        after ih (omega (arith, ltb-true s.clock t p.0, leb-true t limit q.0))
        (λ h m. idle_for_lem s.clock n h (each_all (idle_for s.clock n) s.entries q.1 h m))
