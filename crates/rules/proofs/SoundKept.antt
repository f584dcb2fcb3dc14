-- Every call keeps the image rules.
use mathlib.Core.Path.{◌≡◌, refl, sym, ap, ◌∙◌, subst}
use mathlib.Core.Logic.{⊎_elim}
use Prim.Native.Nat.{ℕ, zero, suc, ◌+◌, ◌-◌, ◌<◌, ◌≤◌}
use mathlib.Core.Bool.{Bool, true, false, cond, not, ◌||◌, ◌&&◌, or-true}
use mathlib.Core.List.{List, [], ◌∷◌, map}
use mathlib.Core.Option.{Option, none, some}
use mathlib.Core.Logic.{inl, inr}
use native.Mathlib.Omega.{arith}
use lib.Dec.{ltb, leb, eqb}
use lib.ListN.{set, length, length-map, length-set}
use lib.Seq.{get_or-set_other}
use borrow.Author.Tests.{ltb-true, ltb-false, leb-false, ne_eqb, not-false}
use Rattle.rules.specs.declared.Event.{Event}
use Rattle.rules.specs.declared.Entry.{Entry}
use Rattle.rules.specs.declared.Schedule.{Schedule}
use Rattle.rules.specs.Lists.{keep, In, All, Pairwise}
use Rattle.rules.specs.Records.{State, id_of, usable, has, most_events, last_clock, no_program, program_at, fresh, view, pad}
use Rattle.rules.specs.Holding.{rank_of, better, claim, held_at, carry, holding_at, with_holding, end_of}
use Rattle.rules.specs.Moments.{lasts, entries_from, second, advance, passed}
use Rattle.rules.specs.Sound.{malformed, any_counted, sound}
use Rattle.rules.specs.Refusals.{first_of, find, late, program_checks, event_checks, clock_checks}
use Rattle.rules.specs.Calls.{program, event, cancellation, decision, question, Call, bare, set_clock, list, entry_id, entry, mark, decide, receive, with_entries, program_of, does, checks, refusal, accepts, accepted, refused, call}
use Rattle.rules.specs.Arrival.{Apart}
use Rattle.rules.proofs.Tests.{both, either_false, first_not}
use Rattle.rules.proofs.ListLaws.{in_keep, all_map, in_insert, asc_insert, asc_keep, asc_map, asc_weaken, keep_length, insert_length, in_set, in_replicate}
use Rattle.rules.proofs.Masks.{not_has, has_either}
use Rattle.rules.proofs.Claims.{claim_cancelled, claim_early, nothing_held}
use Rattle.rules.proofs.Kept.{begins_from, late_not, begins_proper, find_none}
use Rattle.rules.proofs.Ranks.{better_one}
use Rattle.rules.proofs.Holders.{taken_has, if_held}
use Rattle.rules.proofs.SoundState.{SoundEntry, ById, Sound, view_pad, sound_pad, sound_view}

-- Marks of choices.

either_true : (a b : Bool) → b ≡ true → (a || b) ≡ true
either_true a b e = rw (e, or-true)

-- where nothing is held no mark is set
still_uncounted : (h : Entry) (m : ℕ) → m ≡ 0 → any_counted h.choice ≡ false → any_counted (with_holding h (carry h m)).choice ≡ false
still_uncounted h m z e = let r = either_false h.choice.was_in h.choice.was_out e in rw (z, r.0, r.1)

-- where something is held one is
now_counted : (h : Entry) (m : ℕ) → (m ≡ 0 → ⊥) → any_counted (with_holding h (carry h m)).choice ≡ true
now_counted h m f = rw (ne_eqb m 0 f) (go h.choice.was_in h.choice.was_out h.choice.out)
  where
    go : (a b o : Bool) → ((a || (true && not o)) || (b || (true && o))) ≡ true
    go true b o = refl
    go false b true = either_true b true refl
    go false b false = refl

-- A second.

module _ (s : State) (v : Sound s) (l : suc s.clock ≤ last_clock) where
  abbrev t : ℕ
  t = suc s.clock

  abbrev next : Entry → Entry
  next h = with_holding h (holding_at s.programs t s.entries h)

  claim_within : (h : Entry) → SoundEntry s.programs s.clock h → (k : ℕ) → has (claim t h) k ≡ true → has h.event.controls k ≡ true
  unfolding claim
  claim_within h r k e = go (h.cancelled || leb (end_of h) t || ltb t h.begins) (eqb h.begins t) e
    where
      go : (b d : Bool) → has (cond b 0 (cond d h.event.controls h.held)) k ≡ true → has h.event.controls k ≡ true
      go true d e = not_has 0 k refl e
      go false true e = e
      go false false e = r.within k e

  beaten : (h o : Entry) → In h s.entries → better (rank_of s.programs h.event) (rank_of s.programs o.event) ≡ true → Apart (next h) (next o)
  unfolding holding_at
  beaten h o m b k e d = both true refl (sym (if_held s.programs t s.entries k o d).1 ∙ ap not (taken_has s.programs t o h k s.entries m b (if_held s.programs t s.entries k h e).0))

  apart_two : (h o : Entry) → In h s.entries → In o s.entries → ById h o → Apart (next h) (next o)
  apart_two h o m n i k e d = ⊎_elim (λ b. beaten h o m b k e d) (λ b. beaten o h n b k d e) (better_one (rank_of s.programs h.event) (rank_of s.programs o.event) (λ q. omega arith))

  apart_all : (ys : List Entry) → Pairwise ById ys → All (λ y. In y s.entries) ys → Pairwise Apart (map next ys)
  apart_all [] p i = tt
  apart_all (y ∷ ys) p i = (all_map (Apart (next y)) next ys (λ o m. apart_two y o (i y (inl refl)) (i o (inr m)) (p.0 o m)), apart_all ys p.1 (λ z m. i z (inr m)))

  pub sound_second : Sound (second s).state
  unfolding second entries_from holding_at
  sound_second = record {
    clock = l;
    eight = v.eight;
    programs = v.programs;
    room = omega (arith, length-map (keep (lasts t) s.entries) next, keep_length (lasts t) s.entries, v.room);
    ids = asc_map ById ById next (λ x y b. b) (keep (lasts t) s.entries) (asc_keep ById (lasts t) s.entries v.ids);
    entries = all_map (SoundEntry s.programs t) next (keep (lasts t) s.entries) (λ h m. let q = in_keep (lasts t) h s.entries m in one h q.1 (v.entries h q.0));
    apart = apart_all (keep (lasts t) s.entries) (asc_keep ById (lasts t) s.entries v.ids) (λ h m. (in_keep (lasts t) h s.entries m).0);
  }
    where
      one : (h : Entry) → lasts t h ≡ true → SoundEntry s.programs s.clock h → SoundEntry s.programs t (next h)
      one h q r = record {
        numbered = r.numbered;
        added = r.added;
        well = r.well;
        from = r.from;
        short = r.short;
        lasts = ltb-true t (end_of h) q;
        within = λ k e. claim_within h r k (if_held s.programs t s.entries k h e).0;
        early = λ b. nothing_held s.programs t s.entries h (claim_early t h b);
        stopped = λ e. nothing_held s.programs t s.entries h (claim_cancelled t h e);
        uncounted = λ b. still_uncounted h (held_at s.programs t s.entries h) (nothing_held s.programs t s.entries h (claim_early t h b)) (r.uncounted (omega arith));
        counts = λ f. now_counted h (held_at s.programs t s.entries h) f;
      }

pub sound_advance : (n : ℕ) (s : State) → Sound s → s.clock + n ≤ last_clock → Sound (advance n s).state
unfolding advance second
sound_advance zero s v l = v
sound_advance (suc n) s v l = sound_advance n (second s).state (sound_second s v (omega arith)) (omega arith)

-- The calls.

module _ (s : State) (v : Sound s) where
  sound_program_lem : (n p d : ℕ) → eqb (first_of (program_checks s n p)) 0 ≡ true → Sound (record { clock = s.clock; programs = set s.programs n (program_of p d); entries = s.entries })
  unfolding program_checks
  sound_program_lem n p d ok =
      let r3 = first_not 3 (ltb 7 n) _ refl ok in
      let r4 = first_not 4 (program_at s.programs n).added _ refl r3.1 in
      let r5 = first_not 5 (not (usable p)) _ refl r4.1 in
      record {
        clock = v.clock;
        eight = length-set s.programs n (program_of p d) ∙ v.eight;
        programs = λ q m. ⊎_elim (λ e. rw e (record { used = λ d. not-false (usable p) r5.0; unused = λ d. both true refl d })) (λ k. v.programs q k) (in_set q (program_of p d) n s.programs m);
        room = v.room;
        ids = v.ids;
        entries = λ h m. let q = v.entries h m in record {
          numbered = q.numbered;
          added = ap (λ x. x.added) (get_or-set_other s.programs n h.event.program (program_of p d) no_program (λ e. both (program_at s.programs n).added (rw e at q.added) r4.0)) ∙ q.added;
          well = q.well;
          from = q.from;
          short = q.short;
          lasts = q.lasts;
          within = q.within;
          early = q.early;
          stopped = q.stopped;
          uncounted = q.uncounted;
          counts = q.counts;
        };
        apart = v.apart;
      }

  sound_deliver : (e : Event) (o : Option Entry) → find (id_of e) s.entries ≡ o → eqb (first_of (event_checks s e o)) 0 ≡ true → Sound (receive s e o)
  unfolding event_checks
  sound_deliver e (some h) f ok = v
  sound_deliver e none f ok =
      let r3 = first_not 3 (ltb 7 e.program) _ refl ok in
      let r6 = first_not 6 (not (program_at s.programs e.program).added) _ refl r3.1 in
      let r7 = first_not 7 (malformed e) _ refl r6.1 in
      let r9 = first_not 9 (late s.clock e) _ refl r7.1 in
      let r10 = first_not 10 (leb most_events (length s.entries)) _ refl r9.1 in
      let new = entry s.clock e in
      record {
        clock = v.clock;
        eight = v.eight;
        programs = v.programs;
        room = omega (arith, insert_length entry_id new s.entries, leb-false most_events (length s.entries) r10.0);
        ids = asc_insert entry_id new ById s.entries v.ids (λ x m l. differ x m l) (λ x m l. l) (asc_weaken ById (λ x y. entry_id x ≤ entry_id y) (λ x y l. omega arith) s.entries v.ids);
        entries = λ h m. ⊎_elim
            (λ q. subst (SoundEntry s.programs s.clock) (sym q) (record {
              numbered = ltb-false 7 e.program r3.0;
              added = not-false (program_at s.programs e.program).added r6.0;
              well = r7.0;
              from = begins_from e s.clock;
              short = begins_proper e s.clock r7.0 r9.0;
              lasts = omega (arith, late_not e s.clock r9.0);
              within = λ k d. not_has 0 k refl d;
              early = λ l. refl;
              stopped = λ d. refl;
              uncounted = λ l. refl;
              counts = λ f. absurd (f refl);
            }))
            (λ n. v.entries h n) (in_insert entry_id new h s.entries m);
        apart = asc_insert entry_id new Apart s.entries v.apart (λ x m l k p q. not_has 0 k refl q) (λ x m l k p q. not_has 0 k refl p) (asc_weaken ById (λ x y. entry_id x ≤ entry_id y) (λ x y l. omega arith) s.entries v.ids);
      }
    where
      differ : (x : Entry) → In x s.entries → entry_id x ≤ id_of e → entry_id x < id_of e
      differ x m l = let d = find_none (id_of e) s.entries f x m in omega arith

  -- a change of each entry that keeps its rules, the order of the ids and that no two hold a control
  changed :
      (f : Entry → Entry)
      → ((x y : Entry) → ById x y → ById (f x) (f y))
      → ((h : Entry) → SoundEntry s.programs s.clock h → SoundEntry s.programs s.clock (f h))
      → ((x y : Entry) → Apart x y → Apart (f x) (f y))
      → Sound (with_entries s (map f s.entries))
  changed f ids each apart = record {
    clock = v.clock;
    eight = v.eight;
    programs = v.programs;
    room = omega (arith, length-map s.entries f, v.room);
    ids = asc_map ById ById f ids s.entries v.ids;
    entries = all_map (SoundEntry s.programs s.clock) f s.entries (λ h m. each h (v.entries h m));
    apart = asc_map Apart Apart f apart s.entries v.apart;
  }

  sound_cancel : (i : ℕ) → Sound (with_entries s (map (mark i) s.entries))
  sound_cancel i = changed (mark i) (λ x y b. b) (λ h q. record {
    numbered = q.numbered;
    added = q.added;
    well = q.well;
    from = q.from;
    short = q.short;
    lasts = q.lasts;
    within = λ k e. q.within k (has_either (eqb (entry_id h) i) h.held k e);
    early = λ l. none_left (eqb (entry_id h) i) h.held (q.early l);
    stopped = λ e. gone (eqb (entry_id h) i) h.cancelled h.held q.stopped e;
    uncounted = q.uncounted;
    counts = λ f. q.counts (λ z. f (none_left (eqb (entry_id h) i) h.held z));
  }) (λ x y a k e d. a k (has_either (eqb (entry_id x) i) x.held k e) (has_either (eqb (entry_id y) i) y.held k d))
    where
      none_left : (b : Bool) (m : ℕ) → m ≡ 0 → cond b 0 m ≡ 0
      none_left true m e = refl
      none_left false m e = e

      gone : (b c : Bool) (m : ℕ) → (c ≡ true → m ≡ 0) → (b || c) ≡ true → cond b 0 m ≡ 0
      gone true c m f e = refl
      gone false c m f e = f e

  pub sound_choose : (i : ℕ) (out : Bool) → Sound (with_entries s (map (decide i out) s.entries))
  sound_choose i out = changed (decide i out) (λ x y b. b) (λ h q. record {
    numbered = q.numbered;
    added = q.added;
    well = q.well;
    from = q.from;
    short = q.short;
    lasts = q.lasts;
    within = q.within;
    early = q.early;
    stopped = q.stopped;
    uncounted = q.uncounted;
    counts = q.counts;
  }) (λ x y a. a)

  sound_clock : (t rows room : ℕ) → eqb (first_of (clock_checks s.clock t rows room)) 0 ≡ true → Sound (passed s t).state
  unfolding clock_checks
  sound_clock t rows room ok =
      let r = either_false (ltb t s.clock) (ltb last_clock t) (first_not 12 (ltb t s.clock || ltb last_clock t) _ refl ok).0 in
      sound_advance (t - s.clock) s v (omega (arith, ltb-false t s.clock r.0, ltb-false last_clock t r.1))

  -- every accepted call keeps the rules
  pub sound_does : (a : Call) → eqb (first_of (checks s a)) 0 ≡ true → Sound (does s a).state
  unfolding checks does
  sound_does (bare (program n p d)) ok = sound_program_lem n p d ok
  sound_does (bare (event e)) ok = sound_deliver e (find (id_of e) s.entries) refl ok
  sound_does (bare (cancellation i)) ok = sound_cancel i
  sound_does (bare (decision i out)) ok = sound_choose i out
  sound_does (bare (question c)) ok = v
  sound_does (set_clock t b) ok = sound_clock t (length (passed s t).rows) (length b) ok
  sound_does (list r) ok = v

pub sound_fresh : Sound fresh
sound_fresh = record {
  clock = omega arith;
  eight = refl;
  programs = λ p m. rw (in_replicate p no_program 8 m) (record { used = λ e. both false e refl; unused = λ e. refl });
  room = omega arith;
  ids = tt;
  entries = λ h m. absurd m;
  apart = tt;
}

-- The call on a schedule that keeps the rules.

module _ (s : State) (v : Sound s) where
  pub refusal_pad : (c : Call) → refusal (pad s) c ≡ first_of (checks s c)
  unfolding refusal
  refusal_pad c = rw (sound_pad s v) (ap (λ s. first_of (checks s c)) (view_pad s))

  pub call_pad : (c : Call) → call (pad s) c ≡ cond (eqb (first_of (checks s c)) 0) (accepted (does s c)) (refused (pad s) c)
  unfolding call
  call_pad c =
      ap (λ n. cond (eqb n 0) (accepted (does (view (pad s)) c)) (refused (pad s) c)) (refusal_pad c)
      ∙ ap (λ s'. cond (eqb (first_of (checks s c)) 0) (accepted (does s' c)) (refused (pad s) c)) (view_pad s)

-- Every call keeps the rules.

pub sound_call : (s : Schedule) → sound s ≡ true → (c : Call) → sound (call s c).state ≡ true
unfolding call refusal
sound_call s e c = go (accepts s c) refl
  where
    go : (b : Bool) → accepts s c ≡ b → sound (cond b (accepted (does (view s) c)) (refused s c)).state ≡ true
    go true ok = sound_pad (does (view s) c).state (sound_does (view s) (sound_view s e) c (rw e at ok))
    go false _ = e
