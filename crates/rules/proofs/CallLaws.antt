-- What the numbers say of a call, the deliveries and readings that change nothing, and what a cancellation gives.
use mathlib.Core.Path.{◌≡◌, refl, sym, ap, ◌∙◌, subst}
use mathlib.Core.Logic.{◌↔◌, inl, inr}
use Prim.Native.Nat.{ℕ, ◌-◌, ◌*◌, ◌<◌, ◌≤◌}
use mathlib.Core.Bool.{Bool, true, false, cond, not}
use mathlib.Core.List.{List, [], ◌∷◌, map}
use mathlib.Core.Option.{some}
use native.Mathlib.Omega.{arith}
use lib.Dec.{ltb, eqb}
use lib.ListN.{length}
use borrow.Author.Tests.{le-ltb, eqb-true, eqb-false, eq-eqb, ne_eqb, not-true, not-false}
use Rattle.rules.specs.declared.Event.{Event}
use Rattle.rules.specs.declared.Entry.{Entry}
use Rattle.rules.specs.declared.Record.{Record}
use Rattle.rules.specs.declared.Schedule.{Schedule}
use Rattle.rules.specs.Lists.{each, In, Pairwise}
use Rattle.rules.specs.Records.{State, id_of, IdFits, last_clock, program_at, view, pad, most_events}
use Rattle.rules.specs.Moments.{advance, passed}
use Rattle.rules.specs.Bytes.{flat, row_size}
use Rattle.rules.specs.Sound.{malformed, same_event, sound}
use Rattle.rules.specs.Refusals.{Check, first_of, find, program_checks, event_checks, held_checks, clock_checks, ask_checks, list_checks}
use Rattle.rules.specs.Calls.{program, event, cancellation, decision, question, Call, bare, deliver, cancel, set_clock, list, code, count, entry_id, with_entries, mark, cancel_code, does, checks, refusal, accepts, accepted, refused, lent_bytes, lent_list, call}
use Rattle.rules.specs.Clauses.{Fit, CallClauses}
use Rattle.rules.proofs.Tests.{each_true, first_not}
use Rattle.rules.proofs.IdLaws.{same_id}
use Rattle.rules.proofs.SoundState.{Sound, ById, same_event_lem, view_pad, sound_pad, sound_view, pad_view, rules}
use Rattle.rules.proofs.SoundKept.{sound_call}
use Rattle.rules.proofs.Cancelled.{somebody, nobody_missing, find_marked}
use Rattle.rules.proofs.Refused.{ten, short_buffer, short_list}

unchanged : (s : Schedule) (c : Call) → ((call s c).number ≡ 0 → ⊥) → ((call s c).state ≡ s) × ((call s c).bytes ≡ lent_bytes c) × ((call s c).records ≡ lent_list c)
unfolding call
unchanged s c f = go (accepts s c) f
  where
    go : (b : Bool) → ((cond b (accepted (does (view s) c)) (refused s c)).number ≡ 0 → ⊥)
        → ((cond b (accepted (does (view s) c)) (refused s c)).state ≡ s) × ((cond b (accepted (does (view s) c)) (refused s c)).bytes ≡ lent_bytes c)
        × ((cond b (accepted (does (view s) c)) (refused s c)).records ≡ lent_list c)
    go true f = absurd (f refl)
    go false f = (refl, refl, refl)

-- the number is the refusal
number_is : (s : Schedule) (c : Call) → (call s c).number ≡ refusal s c
unfolding call
number_is s c = go (accepts s c) refl
  where
    go : (b : Bool) → accepts s c ≡ b → (cond b (accepted (does (view s) c)) (refused s c)).number ≡ refusal s c
    go true e = sym (eqb-true (refusal s c) 0 e)
    go false e = refl

broken : (s : Schedule) (c : Call) → sound s ≡ false → (call s c).number ≡ 2
unfolding refusal
broken s c e = number_is s c ∙ ap (λ b. first_of (record { number = 2; applies = not b } ∷ checks (view s) c)) e

-- the number of a call on a sound schedule is that of its own checks
own : (s : Schedule) → sound s ≡ true → (c : Call) → (call s c).number ≡ first_of (checks (view s) c)
unfolding refusal
own s e c = number_is s c ∙ ap (λ b. first_of (record { number = 2; applies = not b } ∷ checks (view s) c)) e

-- and so on the schedule by value of a sound state
pub own_pad : (s : State) → Sound s → (c : Call) → (call (pad s) c).number ≡ first_of (checks s c)
own_pad s v c = own (pad s) (sound_pad s v) c ∙ ap (λ s. first_of (checks s c)) (view_pad s)

-- 2 is not among the numbers of a call's own checks
not_given : (cs : List Check) → each (λ c. not (eqb c.number 2)) cs ≡ true → first_of cs ≡ 2 → ⊥
not_given [] e z = eqb-false 0 2 refl z
not_given (c ∷ cs) e z = let r = each_true (not (eqb c.number 2)) _ e in go c.applies (not-true (eqb c.number 2) r.0) (not_given cs r.1) z
  where
    go : (b : Bool) → eqb c.number 2 ≡ false → (first_of cs ≡ 2 → ⊥) → cond b c.number (first_of cs) ≡ 2 → ⊥
    go true f ih z = eqb-false c.number 2 f z
    go false f ih z = ih z

pub not_two : (s : State) (c : Call) → first_of (checks s c) ≡ 2 → ⊥
unfolding checks program_checks event_checks held_checks clock_checks ask_checks list_checks
not_two s (bare (program n p d)) e = not_given (program_checks s n p) refl e
not_two s (bare (event v)) e = not_given (event_checks s v (find (id_of v) s.entries)) refl e
not_two s (bare (cancellation i)) e = not_given (held_checks (find i s.entries)) refl e
not_two s (bare (decision i out)) e = not_given (held_checks (find i s.entries)) refl e
not_two s (bare (question k)) e = not_given (ask_checks k) refl e
not_two s (set_clock t b) e = not_given (clock_checks s.clock t (length (passed s t).rows) (length b)) refl e
not_two s (list r) e = not_given (list_checks (length s.entries) (length r)) refl e

-- an accepted call on a sound schedule
pub done : (s : Schedule) → sound s ≡ true → (c : Call) → first_of (checks (view s) c) ≡ 0 → call s c ≡ accepted (does (view s) c)
unfolding call refusal
done s e c z = rw (e, z)

-- a held event is found under its id
pub found : (hs : List Entry) → Pairwise ById hs → (h : Entry) → In h hs → find (entry_id h) hs ≡ some h
unfolding find
found [] p h m = elim m [ ]
found (x ∷ xs) p h (inl q) = rw (q, eq-eqb (entry_id x) (entry_id x) refl)
found (x ∷ xs) p h (inr m) = rw (ne_eqb (entry_id x) (entry_id h) (λ e. let l = p.0 h m in omega arith)) (found xs p.1 h m)

eqb_same : (n : ℕ) → eqb n n ≡ true
eqb_same n = eq-eqb n n refl

pub event_same : (e : Event) → same_event e e ≡ true
unfolding same_event
event_same e = simp eqb_same

module _ (s : Schedule) (e : sound s ≡ true) (h : Entry) (m : In h (view s).entries) where
  held : find (entry_id h) (view s).entries ≡ some h
  held = found (view s).entries (sound_view s e).ids h m

  again : call s (deliver h.event) ≡ record { number = 0; value = code 0; state = s; bytes = []; records = [] }
  unfolding checks event_checks does
  again =
      let q = (sound_view s e).entries h m in
      done s e (deliver h.event) (rw (held, le-ltb 7 h.event.program q.numbered, q.added, q.well, event_same h.event))
      ∙ rw held (ap (λ z. record { number = 0; value = code 0; state = z; bytes = []; records = [] }) (pad_view s e))

  redrawn : (d : Event) → IdFits h.event.id → IdFits d.id → id_of h.event ≡ id_of d → (h.event ≡ d → ⊥) → (call s (deliver d)).number ≡ 0 → ⊥
  unfolding checks event_checks
  redrawn d a b i f z =
      let old : find (id_of d) (view s).entries ≡ some h = subst (λ k. find k (view s).entries ≡ some h) i held in
      let ok : eqb (first_of (event_checks (view s) d (some h))) 0 ≡ true = eq-eqb _ 0 (rw old at (sym (own s e (deliver d)) ∙ z)) in
      let r3 = first_not 3 (ltb 7 d.program) _ refl ok in
      let r6 = first_not 6 (not (program_at s.programs d.program).added) _ refl r3.1 in
      let r7 = first_not 7 (malformed d) _ refl r6.1 in
      let r8 = first_not 8 (not (same_event h.event d)) _ refl r7.1 in
      f (same_event_lem h.event d (not-false (same_event h.event d) r8.0) (same_id h.event.id d.id a b))

-- Cancellations.

-- what a cancellation gives to the event that is found under its id
cancel_found : (s : Schedule) → sound s ≡ true → (i : ℕ) (h : Entry) → find i (view s).entries ≡ some h
    → ((call s (cancel i)).number ≡ 0) × ((call s (cancel i)).value ≡ cond h.cancelled (code 0) (code 6))
unfolding checks does
cancel_found s e i h f =
    let d = done s e (cancel i) (nobody_missing (find i (view s).entries) h f) in
    (ap (λ o. o.number) d, ap (λ o. o.value) d ∙ ap cancel_code f)

cancelled_again : (s : Schedule) (i : ℕ) → sound s ≡ true → (call s (cancel i)).number ≡ 0
    → ((call (call s (cancel i)).state (cancel i)).number ≡ 0) × ((call (call s (cancel i)).state (cancel i)).value ≡ code 0)
unfolding checks does
cancelled_again s i e z =
    let ok : first_of (checks (view s) (cancel i)) ≡ 0 = sym (own s e (cancel i)) ∙ z in
    let h = somebody (find i (view s).entries) ok in
    let o = find_marked i h.0 (view s).entries h.1 in
    let left : view (call s (cancel i)).state ≡ with_entries (view s) (map (mark i) (view s).entries) = ap (λ o. view o.state) (done s e (cancel i) ok) ∙ view_pad _ in
    let r = cancel_found (call s (cancel i)).state (sound_call s e (cancel i)) i o.0 (ap (λ s. find i s.entries) left ∙ o.1) in
    (r.0, r.1 ∙ ap (λ b. cond b (code 0) (code 6)) o.2)

-- Numbers 10 and 13.

full : (s : Schedule) (d : Event) → sound s ≡ true → (call s (deliver d)).number ≡ 10 ↔ ((length (view s).entries ≡ most_events) × Fit (view s) d)
unfolding checks
full s d e =
    let r = ten (view s) d in (
      λ z. let q = r.0 (sym (own s e (deliver d)) ∙ z) in (omega (arith, q.0, (sound_view s e).room), q.1),
      λ f. own s e (deliver d) ∙ r.1 (omega (arith, f.0), f.1),
    )

too_short : (s : Schedule) (t : ℕ) (b : List ℕ) → sound s ≡ true
    → (call s (set_clock t b)).number ≡ 13 ↔ ((s.clock ≤ t) × (t ≤ last_clock) × (length b < row_size * length (passed (view s) t).rows))
unfolding checks
too_short s t b e =
    let r = short_buffer s.clock t (length (passed (view s) t).rows) (length b) in
    (λ z. r.0 (sym (own s e (set_clock t b)) ∙ z), λ f. own s e (set_clock t b) ∙ r.1 f)

too_few : (s : Schedule) (r : List Record) → sound s ≡ true → (call s (list r)).number ≡ 13 ↔ (length r < length (view s).entries)
unfolding checks
too_few s r e =
    let q = short_list (length (view s).entries) (length r) in
    (λ z. q.0 (sym (own s e (list r)) ∙ z), λ f. own s e (list r) ∙ q.1 f)

same_reading : (s : Schedule) (b : List ℕ) → sound s ≡ true → call s (set_clock s.clock b) ≡ record { number = 0; value = count 0; state = s; bytes = b; records = [] }
unfolding checks clock_checks does advance flat
same_reading s b e =
    let z : s.clock - s.clock ≡ 0 = omega arith in
    done s e (set_clock s.clock b)
    (rw (le-ltb s.clock s.clock (omega arith), le-ltb last_clock s.clock (rules s e).clock, z, le-ltb (length b) (row_size * length (advance 0 (view s)).rows) (omega arith)))
    ∙ rw z (ap (λ y. record { number = 0; value = count 0; state = y; bytes = b; records = [] }) (pad_view s e))

pub call_clauses : CallClauses
call_clauses = record {
  unchanged = unchanged;
  broken = broken;
  again = λ s h e m. again s e h m;
  redrawn = λ s h d e m. redrawn s e h m d;
  cancelled = λ s h e m. cancel_found s e (entry_id h) h (held s e h m);
  cancelled_again = cancelled_again;
  full = full;
  too_short = too_short;
  short_list = too_few;
  same_reading = same_reading;
}
