-- The order of arrival does not count: two histories with the same members, listed by id and start, are equal lists, and the rest depends on nothing else.
use mathlib.Core.Path.{◌≡◌, refl, sym, ap, ◌∙◌, subst}
use mathlib.Core.Logic.{inl, inr}
use Prim.Native.Nat.{ℕ, ◌<◌, ◌≤◌}
use mathlib.Core.Bool.{Bool, true, false, cond}
use mathlib.Core.List.{List, [], ◌∷◌, map, map-map}
use mathlib.Core.Option.{Option, none, some}
use native.Mathlib.Omega.{arith}
use lib.Dec.{ltb, eqb}
use lib.ListN.{length, take, drop, length-map}
use lib.Seq.{take-append_seam}
use borrow.Author.Tests.{ltb-false, le-ltb, eqb-false}
use Rattle.rules.specs.declared.Entry.{Entry}
use Rattle.rules.specs.declared.Record.{Record}
use Rattle.rules.specs.declared.Program.{Program}
use Rattle.rules.specs.Lists.{keep, over, In, Same, All}
use Rattle.rules.specs.Records.{id_of, has, pad}
use Rattle.rules.specs.Period.{drawn_start, effective_start, effective_end}
use Rattle.rules.specs.Bytes.{bytes, flat}
use Rattle.rules.specs.Refusals.{first_of, list_checks, ask_checks}
use Rattle.rules.specs.Calls.{Call, list, ask, Value, count, holder, entry_id, record_of, default_for, best_default, governs, holder_in, answer_for, does, checks, accepted, refused, counted, Outcome, call}
use Rattle.rules.specs.History.{Brought, History, history_of}
use Rattle.rules.specs.Schedules.{Timed, timed, gone_by, out_by, holding, living, seen, rows_to, held_events, programs_of, times_of, state_at, state_of, rows_of}
use Rattle.rules.specs.Arrival.{after, joined_rows, events_of, Cancellation, Choices, InTime, SameArrivals, Started, starts_of, SameStarts, held_of, Listed, Asked, OneHolder, NoTwoHolders, AsScheduled, SameResults, ArrivalOrder}
use Rattle.rules.proofs.Tests.{each_true}
use Rattle.rules.proofs.ListLaws.{in_map, map_in, all_map, in_keep, keep_in, asc_keep, map_same, ext, one}
use Rattle.rules.proofs.Masks.{not_has}
use Rattle.rules.proofs.Local.{holding_ended}
use Rattle.rules.proofs.Kept.{Before}
use Rattle.rules.proofs.SoundState.{Sound}
use Rattle.rules.proofs.SoundKept.{refusal_pad, call_pad}
use Rattle.rules.proofs.CallLaws.{not_two, own_pad}
use Rattle.rules.proofs.Scheduled.{Inv, scheduled}
use Rattle.rules.proofs.RowOrder.{rows_ascend}
use Rattle.rules.proofs.OneHolder.{one_holder}
use Rattle.rules.proofs.Quiet.{same_holder}
use Rattle.rules.proofs.Members.{programs_same, in_cancellations, cancellations_in_lem}

asym : (x y : Timed) → Before x y → Before y x → ⊥
asym x y (inl l) (inl m) = omega arith
asym x y (inl l) (inr m) = omega arith
asym x y (inr l) (inl m) = omega arith
asym x y (inr l) (inr m) = omega arith

never : {P : Type 0} (o : Option ℕ) (k : ℕ) → o ≡ none → o ≡ some k → P
never o k p q = absurd (let z : ◌≡◌ {A = ℕ} 0 1 = cc in omega arith)

timed_same : (p q : Brought) → (timed q).begins ≡ (timed p).begins → q.event ≡ p.event → q.cancelled ≡ p.cancelled → q.choices ≡ p.choices → timed p ≡ timed q
timed_same p q b e d c = sym (λ i. record { event = e i; begins = b i; cancelled = d i; choices = c i })

-- two entries of one event are one: the second would begin after its own end
once : (H : History) → Inv H → (p q : Brought) → In p H.brought → In q H.brought → q.event ≡ p.event → timed p ≡ timed q
once H v p q m n e =
    one Before asym (times_of H) v.kept.ascending (timed p) (timed q) (map_in timed p H.brought m) (map_in timed q H.brought n)
    (λ r. apart p q n (sym e) r) (λ r. apart q p m e r)
  where
    apart : (p q : Brought) → In q H.brought → p.event ≡ q.event → Before (timed p) (timed q) → ⊥
    apart p q n e (inl l) = omega (arith, ap id_of e)
    apart p q n e (inr r) = omega (arith, ap effective_end e, r.2, v.kept.proper (timed q) (map_in timed q H.brought n))

module _ (H K : History) (v : Inv H) (w : Inv K) (same : SameStarts H K) where
  -- an event of the one history is in the other, with the same start
  started : (p : Brought) → In p H.brought → (q : Brought) × In q K.brought × (q.event ≡ p.event) × ((timed q).begins ≡ (timed p).begins)
  started p m =
      let f : Timed → Started = λ x. record { event = x.event; begins = x.begins } in
      let r = in_map f (f (timed p)) (times_of K) ((same.starts (f (timed p))).0 (map_in f (timed p) (times_of H) (map_in timed p H.brought m))) in
      let b = in_map timed r.0 K.brought r.1 in (
        b.0,
        b.1,
        sym (ap (λ x. x.event) b.2) ∙ sym (ap (λ x. x.event) r.2),
        sym (ap (λ x. x.begins) b.2) ∙ sym (ap (λ x. x.begins) r.2),
      )

  -- and cancelled at the same clock
  cancelled : (p q : Brought) → In p H.brought → In q K.brought → q.event ≡ p.event → (o u : Option ℕ) → p.cancelled ≡ o → q.cancelled ≡ u → p.cancelled ≡ q.cancelled
  cancelled p q m n e none none d f = d ∙ sym f
  cancelled p q m n e none (some k) d f =
      let it : Cancellation = record { event = q.event; clock = k } in
      let r = in_cancellations H.brought it ((same.cancellations it).1 (cancellations_in_lem K.brought q n k f)) in
      never p.cancelled k d (ap (λ x. x.cancelled) (once H v p r.0 m r.1 (r.2 ∙ e)) ∙ r.3)
  cancelled p q m n e (some k) u d f =
      let it : Cancellation = record { event = p.event; clock = k } in
      let r = in_cancellations K.brought it ((same.cancellations it).0 (cancellations_in_lem H.brought p m k d)) in
      d ∙ sym r.3 ∙ sym (ap (λ x. x.cancelled) (once K w q r.0 n r.1 (r.2 ∙ sym e)))

  -- with the same choices
  chosen : (p q : Brought) → In p H.brought → In q K.brought → q.event ≡ p.event → q.choices ≡ p.choices
  chosen p q m n e =
      let f : Brought → Choices = λ b. record { event = b.event; made = b.choices } in
      let r = in_map f (f p) K.brought ((same.choices (f p)).0 (map_in f p H.brought m)) in
      ap (λ x. x.choices) (once K w q r.0 n r.1 (sym (ap (λ c. c.event) r.2) ∙ sym e)) ∙ sym (ap (λ c. c.made) r.2)

  times_in : (z : Timed) → In z (times_of H) → In z (times_of K)
  times_in z m =
      let r = in_map timed z H.brought m in
      let p = r.0 in
      let q = started p r.1 in
      let d = cancelled p q.0 r.1 q.1 q.2 p.cancelled q.0.cancelled refl refl in
      rw (r.2, timed_same p q.0 q.3 q.2 (sym d) (chosen p q.0 r.1 q.1 q.2)) (map_in timed q.0 K.brought q.1)

turned : {H K : History} → SameStarts H K → SameStarts K H
turned s = record {
  programs = λ a. ((s.programs a).1, (s.programs a).0);
  starts = λ a. ((s.starts a).1, (s.starts a).0);
  cancellations = λ a. ((s.cancellations a).1, (s.cancellations a).0);
  choices = λ a. ((s.choices a).1, (s.choices a).0);
  last = sym s.last;
}

module _ (H K : History) (v : Inv H) (w : Inv K) (same : SameStarts H K) where
  programs_equal : programs_of H.programs ≡ programs_of K.programs
  programs_equal = programs_same H.programs K.programs v.numbered w.numbered same.programs

  times_equal : times_of H ≡ times_of K
  times_equal = ext Before asym (times_of H) (times_of K) v.kept.ascending w.kept.ascending (λ z. (times_in H K v w same z, times_in K H w v (turned same) z))

  state_equal : state_of H ≡ state_of K
  state_equal = λ i. state_at (programs_equal i) (times_equal i) (same.last i)

  rows_equal : rows_of H ≡ rows_of K
  rows_equal = λ i. rows_to (programs_equal i) (times_equal i) (same.last i)

-- Answers after a list.

-- the first that holds a control is the one that does
holder_held : (c : ℕ) (else : Value) (hs : List Entry) → OneHolder hs → (h : Entry) → In h hs → governs c h ≡ true → holder_in c hs else ≡ holder (entry_id h)
unfolding holder_in
holder_held c else [] one h m e = elim m [ ]
holder_held c else (x ∷ xs) one h (inl q) e = rw (← q, e)
holder_held c else (x ∷ xs) one h (inr m) e = go (governs c x) refl (holder_held c else xs one.1 h m e)
  where
    go : (b : Bool) → governs c x ≡ b → holder_in c xs else ≡ holder (entry_id h) → cond b (holder (entry_id x)) (holder_in c xs else) ≡ holder (entry_id h)
    go true d ih = absurd (one.0 h m c (each_true (has x.held c) _ d).0 (each_true (has h.held c) _ e).0)
    go false d ih = ih

holder_free : (c : ℕ) (else : Value) (hs : List Entry) → All (λ h. governs c h ≡ false) hs → holder_in c hs else ≡ else
unfolding holder_in
holder_free c else [] h = refl
holder_free c else (x ∷ xs) h = rw (h x (inl refl)) (holder_free c else xs (λ y m. h y (inr m)))

-- what holds a control has not ended
holds_living : (ps : List Program) (ts : List Timed) (t c : ℕ) (x : Timed) → has (seen ps ts t x).held c ≡ true → living t x ≡ true
holds_living ps ts t c x e = go (living t x) refl (gone_by t x.cancelled) e
  where
    go : (b : Bool) → living t x ≡ b → (g : Bool) → has (cond g 0 (holding ps ts t x).held) c ≡ true → b ≡ true
    go true l g e = refl
    go false l true e = not_has 0 c refl e
    go false l false e = not_has (holding ps ts t x).held c (holding_ended ps ts t x (ltb-false t (effective_end x.event) l)) e

module _ (H : History) (v : Inv H) (u : Sound (state_of H)) where
  abbrev ps : List Program
  ps = programs_of H.programs

  abbrev ts : List Timed
  ts = times_of H

  abbrev t : ℕ
  t = H.last

  abbrev hs : List Entry
  hs = map (seen ps ts t) (keep (living t) ts)

  alone : OneHolder hs
  alone = one_holder ps ts t (keep (living t) ts) (asc_keep Before (living t) ts v.kept.ascending) (λ x m. (in_keep (living t) x ts m).0)

  listed_is : (lent : List Record) → length (held_of H) ≤ length lent → Listed H lent (call (pad (state_of H)) (list lent))
  unfolding checks list_checks does
  listed_is lent l =
      rw (call_pad (state_of H) u (list lent), le-ltb (length lent) (length (state_of H).entries) (omega (arith, length-map (state_of H).entries record_of)))
      (record { accepted = refl; value = ap count (sym (length-map (state_of H).entries record_of)); records = refl })

  asked_is : (c : ℕ) → c < 32 → Asked H c (call (pad (state_of H)) (ask c))
  unfolding checks ask_checks does answer_for held_events
  asked_is c l = rw (call_pad (state_of H) u (ask c), le-ltb 31 c (omega arith)) (record {
    accepted = refl;
    held = λ x m e o. holder_held c else hs alone (seen ps ts t x) (held_in x m e) (rw (e, o));
    out = λ x m e o. holder_free c else hs (λ h n. silent x h n (held_in x m e) e o (has h.held c) refl);
    free = λ f. holder_free c else hs (all_map (λ h. governs c h ≡ false) (seen ps ts t) (keep (living t) ts) (λ x m. rw (f x (in_keep (living t) x ts m).0)));
  })
    where
      held_in : (x : Timed) → In x ts → has (seen ps ts t x).held c ≡ true → In (seen ps ts t x) hs
      held_in x m e = map_in (seen ps ts t) x (keep (living t) ts) (keep_in (living t) x ts m (holds_living ps ts t c x e))

      -- where the holder is out, nobody answers
      silent : (x : Timed) (h : Entry) → In h hs → In (seen ps ts t x) hs → has (seen ps ts t x).held c ≡ true → out_by t x.choices ≡ true
          → (b : Bool) → has h.held c ≡ b → governs c h ≡ false
      silent x h n m e o true d = ap (governs c) (same_holder hs alone h (seen ps ts t x) n m c d e) ∙ rw (e, o)
      silent x h n m e o false d = rw d

      else : Value
      else = default_for (best_default c 0 ps)

  listing_is : (lent : List Record) → (call (pad (state_of H)) (list lent)).number ≡ 0
      → map (λ r. r.entry) (take (counted (call (pad (state_of H)) (list lent)).value) (call (pad (state_of H)) (list lent)).records) ≡ hs
  unfolding checks list_checks does held_events
  listing_is lent = rw (call_pad (state_of H) u (list lent)) (go (ltb (length lent) (length hs)) refl)
    where
      out : Bool → Outcome
      out b = cond (eqb (cond b 13 0) 0) (accepted (does (state_of H) (list lent))) (refused (pad (state_of H)) (list lent))

      entries : take (length hs) (over (map record_of hs) lent) ≡ map record_of hs
      entries = ap (λ n. take n (over (map record_of hs) lent)) (sym (length-map hs record_of)) ∙ take-append_seam (map record_of hs) (drop (length (map record_of hs)) lent)

      go : (b : Bool) → ltb (length lent) (length hs) ≡ b → (out b).number ≡ 0 → map (λ r. r.entry) (take (counted (out b).value) (out b).records) ≡ hs
      go true e z = absurd (eqb-false 13 0 refl (sym (refusal_pad (state_of H) u (list lent) ∙ ap (λ b. cond {A = ℕ} b 13 0) e) ∙ z))
      go false e z = ap (map (λ r. r.entry)) entries ∙ map-map (λ r. r.entry) record_of hs ∙ map_same (λ h. h) hs (λ h m. refl)

-- Theorem A.

no_two_holders : (cs : List Call) → NoTwoHolders cs
unfolding held_events
no_two_holders cs =
    let n = scheduled cs in
    let H = history_of cs in
    record {
      scheduled = one_holder (programs_of H.programs) (times_of H) H.last (times_of H) n.inv.kept.ascending (λ x m. m);
      listed = λ lent. rw n.state (λ z. rw (listing_is H n.inv n.sound lent z) (alone H n.inv n.sound));
    }

-- a call is numbered by the checks of the history's state
refusals : (cs : List Call) (c : Call) → (call (after cs) c).number ≡ first_of (checks (state_of (history_of cs)) c)
refusals cs c = let n = scheduled cs in ap (λ s. (call s c).number) n.state ∙ own_pad (state_of (history_of cs)) n.sound c

-- a list from the fresh schedule never meets 2
never_broken : (cs : List Call) (c : Call) → (call (after cs) c).number ≡ 2 → ⊥
never_broken cs c z = not_two (state_of (history_of cs)) c (sym (refusals cs c) ∙ z)

joined_is : (cs : List Call) → joined_rows cs ≡ bytes (rows_of (history_of cs))
unfolding rows_to flat
joined_is cs = (scheduled cs).rows

as_scheduled : (cs : List Call) → AsScheduled cs
as_scheduled cs =
    let n = scheduled cs in
    record {
      state = n.state;
      starts = λ b m. refl;
      rows = joined_is cs;
      ascending = rows_ascend (programs_of (history_of cs).programs) (times_of (history_of cs)) n.inv.kept.ascending n.inv.kept.proper (history_of cs).last;
      listed = λ lent l. rw n.state (listed_is (history_of cs) n.inv n.sound lent l);
      asked = λ c l. rw n.state (asked_is (history_of cs) n.inv n.sound c l);
      refusals = λ before rest c e. refusals before c;
      never_broken = λ before rest c e. never_broken before c;
      no_two_holders = λ before rest e. no_two_holders before;
    }

-- Demand 3.

same_results : (a b : List Call) → SameStarts (history_of a) (history_of b) → SameResults a b
same_results a b s =
    let v = scheduled a in
    let w = scheduled b in
    let state : after a ≡ after b = v.state ∙ ap pad (state_equal (history_of a) (history_of b) v.inv w.inv s) ∙ sym w.state in
    record {
      rows = joined_is a ∙ ap bytes (rows_equal (history_of a) (history_of b) v.inv w.inv s) ∙ sym (joined_is b);
      listed = λ lent. ap (λ z. call z (list lent)) state;
      asked = λ c l. ap (λ z. call z (ask c)) state;
      first = as_scheduled a;
      second = as_scheduled b;
    }

-- an event that was received before its drawn start begins at it, so the receipt clocks drop out
on_time : (b : Brought) → b.receipt < drawn_start b.event → (timed b).begins ≡ drawn_start b.event
unfolding effective_start
on_time b l = omega arith

module _ (H K : History) (events : Same (events_of H) (events_of K)) (early : InTime H) (punctual : InTime K) where
  start_in : (z : Started) → In z (starts_of H) → In z (starts_of K)
  start_in z m =
      let f : Timed → Started = λ x. record { event = x.event; begins = x.begins } in
      let r = in_map f z (times_of H) m in
      let p = in_map timed r.0 H.brought r.1 in
      let q = in_map (λ b. b.event) p.0.event K.brought ((events p.0.event).0 (map_in (λ b. b.event) p.0 H.brought p.1)) in
      let begins : (timed p.0).begins ≡ (timed q.0).begins = on_time p.0 (early p.0 p.1) ∙ ap drawn_start q.2 ∙ sym (on_time q.0 (punctual q.0 q.1)) in
      let same : f (timed p.0) ≡ f (timed q.0) = λ i. record { event = q.2 i; begins = begins i } in
      subst (λ y. In y (starts_of K)) (sym (r.2 ∙ ap f p.2 ∙ same)) (map_in f (timed q.0) (times_of K) (map_in timed q.0 K.brought q.1))

same_starts : (H K : History) → SameArrivals H K → SameStarts H K
same_starts H K s = record {
  programs = s.programs;
  starts = λ z. (start_in H K s.events s.in_time s.in_time_too z, start_in K H (λ e. ((s.events e).1, (s.events e).0)) s.in_time_too s.in_time z);
  cancellations = s.cancellations;
  choices = s.choices;
  last = s.last;
}

pub arrival_order : ArrivalOrder
arrival_order = record {
  same = λ a b s. same_results a b (same_starts (history_of a) (history_of b) s);
  starts = same_results;
  scheduled = as_scheduled;
}
