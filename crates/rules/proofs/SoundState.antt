-- The image rules as statements about the schedule as lists, and that they are what `sound` tests.
use mathlib.Core.Path.{◌≡◌, refl, sym, ap, ap₂, ◌∙◌}
use Prim.Native.Nat.{ℕ, zero, suc, ◌-◌, ◌<◌, ◌≤◌}
use mathlib.Core.Bool.{Bool, true, false, cond, not, ◌&&◌, ◌||◌}
use mathlib.Core.List.{List, ◌++◌}
use native.Mathlib.Omega.{arith}
use lib.Dec.{leb, ltb, eqb}
use lib.ListN.{length, take, drop, replicate, take-append-drop, length-append, length-drop, length-take, length-replicate}
use lib.Seq.{take-append_seam, drop-append_seam}
use borrow.Author.Tests.{le-leb, leb-true, leb-false, lt-ltb, ltb-true, eq-eqb, ne_eqb, eqb-true, eqb-false, not-true}
use Rattle.rules.specs.declared.Id.{Id}
use Rattle.rules.specs.declared.Event.{Event}
use Rattle.rules.specs.declared.Entry.{Entry}
use Rattle.rules.specs.declared.Program.{Program}
use Rattle.rules.specs.declared.Schedule.{Schedule}
use Rattle.rules.specs.Lists.{each, pairs, All, Pairwise}
use Rattle.rules.specs.Records.{State, id_of, usable, has, cut, most_events, last_clock, no_program, no_event, no_entry, program_at, view, pad}
use Rattle.rules.specs.Period.{drawn_start}
use Rattle.rules.specs.Holding.{end_of}
use Rattle.rules.specs.Sound.{malformed, same_event, whole, within_limits, sound_program, unused, ascending, of_program, well_formed, in_period, lasting, carried, held_since_start, none_if_cancelled, any_counted, counted_since_start, counted_if_held, apart, sound_entry, sound}
use Rattle.rules.specs.Calls.{entry_id}
use Rattle.rules.specs.Arrival.{Apart, OneHolder}
use Rattle.rules.proofs.Tests.{either_false, each_true}
use Rattle.rules.proofs.IdLaws.{number_id, zero_number}
use Rattle.rules.proofs.ListLaws.{each_all, all_each, pairs_pairwise, pairwise_pairs, replicated}
use Rattle.rules.proofs.Masks.{cut_apart, apart_cut, cut_within, within_cut}

-- an entry with these programs at a clock
pub record SoundEntry (ps : List Program) (clock : ℕ) (h : Entry) : Type 0 where
  pub numbered : h.event.program ≤ 7
  pub added : (program_at ps h.event.program).added ≡ true
  pub well : malformed h.event ≡ false
  pub from : drawn_start h.event ≤ h.begins
  pub short : h.begins < end_of h
  pub lasts : clock < end_of h
  pub within : (k : ℕ) → has h.held k ≡ true → has h.event.controls k ≡ true
  pub early : clock < h.begins → h.held ≡ 0
  pub stopped : h.cancelled ≡ true → h.held ≡ 0
  pub uncounted : clock < h.begins → any_counted h.choice ≡ false
  pub counts : (h.held ≡ 0 → ⊥) → any_counted h.choice ≡ true

pub record SoundProgram (p : Program) : Type 0 where
  pub used : p.added ≡ true → usable p.primacy ≡ true
  pub unused : p.added ≡ false → p ≡ no_program

abbrev pub ById : Entry → Entry → Type 0
ById a b = entry_id a < entry_id b

pub record Sound (s : State) : Type 0 where
  pub clock : s.clock ≤ last_clock
  pub eight : length s.programs ≡ 8
  pub programs : All SoundProgram s.programs
  pub room : length s.entries ≤ most_events
  pub ids : Pairwise ById s.entries
  pub entries : All (SoundEntry s.programs s.clock) s.entries
  pub apart : OneHolder s.entries

-- From the statement to the test.

program_true : (p : Program) → SoundProgram p → sound_program p ≡ true
unfolding sound_program
program_true p v = go p.added refl
  where
    go : (b : Bool) → p.added ≡ b → cond b (usable p.primacy) (eqb p.primacy 0 && eqb p.defaults 0) ≡ true
    go true e = v.used e
    go false e = ap (λ q. eqb q.primacy 0 && eqb q.defaults 0) (v.unused e)

unused_true : (n : ℕ) → each unused (replicate n no_entry) ≡ true
unfolding unused same_event
unused_true zero = refl
unused_true (suc n) = rw (eq-eqb (id_of no_event) (id_of no_event) refl) (unused_true n)

entry_true : (ps : List Program) (c : ℕ) (h : Entry) → SoundEntry ps c h → sound_entry ps c h ≡ true
unfolding sound_entry of_program well_formed in_period lasting carried held_since_start none_if_cancelled counted_since_start counted_if_held
entry_true ps c h v =
    rw (
      le-leb h.event.program 7 v.numbered,
      v.added,
      v.well,
      le-leb (drawn_start h.event) h.begins v.from,
      lt-ltb h.begins (end_of h) v.short,
      lt-ltb c (end_of h) v.lasts,
      eq-eqb (cut h.held h.event.controls) 0 (cut_within h.held h.event.controls v.within),
    )
    (ap₂ ◌&&◌ (early (leb h.begins c) refl)
    (ap₂ ◌&&◌ (stopped h.cancelled refl) (ap₂ ◌&&◌ (uncounted (leb h.begins c) refl) (counts (eqb h.held 0) refl))))
  where
    uncounted : (b : Bool) → leb h.begins c ≡ b → (b || not (any_counted h.choice)) ≡ true
    uncounted true e = refl
    uncounted false e = ap not (v.uncounted (leb-false h.begins c e))

    counts : (b : Bool) → eqb h.held 0 ≡ b → (b || any_counted h.choice) ≡ true
    counts true e = refl
    counts false e = v.counts (eqb-false h.held 0 e)

    early : (b : Bool) → leb h.begins c ≡ b → (b || eqb h.held 0) ≡ true
    early true e = refl
    early false e = eq-eqb h.held 0 (v.early (leb-false h.begins c e))

    stopped : (b : Bool) → h.cancelled ≡ b → (not b || eqb h.held 0) ≡ true
    stopped true e = eq-eqb h.held 0 (v.stopped e)
    stopped false e = refl

ascending_true : (h o : Entry) → ById h o → ascending h o ≡ true
unfolding ascending
ascending_true h o l = lt-ltb (entry_id h) (entry_id o) l

apart_true : (h o : Entry) → Apart h o → apart h o ≡ true
unfolding apart
apart_true h o a = eq-eqb (cut h.held o.held) h.held (cut_apart h.held o.held a)

pub view_pad : (s : State) → view (pad s) ≡ s
view_pad s = ap (λ hs. record { clock = s.clock; programs = s.programs; entries = hs }) (take-append_seam s.entries (replicate (most_events - length s.entries) no_entry))

pub sound_pad : (s : State) → Sound s → sound (pad s) ≡ true
unfolding sound whole within_limits
sound_pad s v =
    let n = length s.entries in
    let full : length (s.entries ++ replicate (most_events - n) no_entry) ≡ most_events =
    length-append s.entries (replicate (most_events - n) no_entry) ∙ omega (arith, length-replicate (most_events - n) no_entry, v.room) in
    rw (
      take-append_seam,
      drop-append_seam,
      eq-eqb (length s.programs) 8 v.eight,
      eq-eqb _ most_events full,
      le-leb s.clock last_clock v.clock,
      le-leb n most_events v.room,
      all_each sound_program s.programs (λ p m. program_true p (v.programs p m)),
      unused_true (most_events - n),
      pairwise_pairs ById ascending ascending_true s.entries v.ids,
      all_each (sound_entry s.programs s.clock) s.entries (λ h m. entry_true s.programs s.clock h (v.entries h m)),
    )
    (pairwise_pairs Apart apart apart_true s.entries v.apart)

-- From the test to the statement.

true_program : (p : Program) → sound_program p ≡ true → SoundProgram p
unfolding sound_program
true_program p e = record { used = λ a. rw a at e; unused = λ a. none a }
  where
    none : p.added ≡ false → p ≡ no_program
    none a =
        let r = each_true (eqb p.primacy 0) (eqb p.defaults 0) (rw a at e) in
        λ i. record { added = a i; primacy = eqb-true p.primacy 0 r.0 i; defaults = eqb-true p.defaults 0 r.1 i }

true_entry : (ps : List Program) (c : ℕ) (h : Entry) → sound_entry ps c h ≡ true → SoundEntry ps c h
unfolding sound_entry of_program well_formed in_period lasting carried held_since_start none_if_cancelled counted_since_start counted_if_held
true_entry ps c h e =
    let r1 = each_true (of_program ps h) _ e in
    let r2 = each_true (well_formed h) _ r1.1 in
    let r3 = each_true (in_period h) _ r2.1 in
    let r4 = each_true (lasting c h) _ r3.1 in
    let r5 = each_true (carried h) _ r4.1 in
    let r6 = each_true (held_since_start c h) _ r5.1 in
    let r7 = each_true (none_if_cancelled h) _ r6.1 in
    let r8 = each_true (counted_since_start c h) (counted_if_held h) r7.1 in
    let p = each_true (leb h.event.program 7) (program_at ps h.event.program).added r1.0 in
    let q = each_true (leb (drawn_start h.event) h.begins) (ltb h.begins (end_of h)) r3.0 in
    record {
      numbered = leb-true h.event.program 7 p.0;
      added = p.1;
      well = not-true (malformed h.event) r2.0;
      from = leb-true (drawn_start h.event) h.begins q.0;
      short = ltb-true h.begins (end_of h) q.1;
      lasts = ltb-true c (end_of h) r4.0;
      within = within_cut h.held h.event.controls (eqb-true (cut h.held h.event.controls) 0 r5.0);
      early = λ l. early (leb h.begins c) refl r6.0 l;
      stopped = λ d. eqb-true h.held 0 (rw d at r7.0);
      uncounted = λ l. uncounted (leb h.begins c) refl r8.0 l;
      counts = λ f. rw (ne_eqb h.held 0 f) at r8.1;
    }
  where
    uncounted : (b : Bool) → leb h.begins c ≡ b → (b || not (any_counted h.choice)) ≡ true → c < h.begins → any_counted h.choice ≡ false
    uncounted true p q l = absurd (omega (arith, leb-true h.begins c p))
    uncounted false p q l = not-true (any_counted h.choice) q

    early : (b : Bool) → leb h.begins c ≡ b → (b || eqb h.held 0) ≡ true → c < h.begins → h.held ≡ 0
    early true p q l = absurd (omega (arith, leb-true h.begins c p))
    early false p q l = eqb-true h.held 0 q

true_ascending : (h o : Entry) → ascending h o ≡ true → ById h o
unfolding ascending
true_ascending h o e = ltb-true (entry_id h) (entry_id o) e

true_apart : (h o : Entry) → apart h o ≡ true → Apart h o
unfolding apart
true_apart h o e = apart_cut h.held o.held (eqb-true (cut h.held o.held) h.held e)

-- an event under another id
abbrev pub renamed : Id → Event → Event
renamed i e =
    record {
      id = i;
      program = e.program;
      controls = e.controls;
      created = e.created;
      start = e.start;
      duration = e.duration;
      randomize_start = e.randomize_start;
      randomize_duration = e.randomize_duration;
      start_draw = e.start_draw;
      duration_draw = e.duration_draw;
    }

-- events that pass the test have ids of the same number, and are the same but for that
pub same_fields : (a b : Event) → same_event a b ≡ true → (id_of a ≡ id_of b) × (a ≡ renamed a.id b)
unfolding same_event
same_fields a b e =
    let r9 = each_true _ (eqb a.duration_draw b.duration_draw) e in
    let r8 = each_true _ (eqb a.start_draw b.start_draw) r9.0 in
    let r7 = each_true _ (eqb a.randomize_duration b.randomize_duration) r8.0 in
    let r6 = each_true _ (eqb a.randomize_start b.randomize_start) r7.0 in
    let r5 = each_true _ (eqb a.duration b.duration) r6.0 in
    let r4 = each_true _ (eqb a.start b.start) r5.0 in
    let r3 = each_true _ (eqb a.created b.created) r4.0 in
    let r2 = each_true _ (eqb a.controls b.controls) r3.0 in
    let r1 = each_true (eqb (id_of a) (id_of b)) (eqb a.program b.program) r2.0 in (
      eqb-true (id_of a) (id_of b) r1.0,
      λ i. record {
        id = a.id;
        program = eqb-true a.program b.program r1.1 i;
        controls = eqb-true a.controls b.controls r2.1 i;
        created = eqb-true a.created b.created r3.1 i;
        start = eqb-true a.start b.start r4.1 i;
        duration = eqb-true a.duration b.duration r5.1 i;
        randomize_start = eqb-true a.randomize_start b.randomize_start r6.1 i;
        randomize_duration = eqb-true a.randomize_duration b.randomize_duration r7.1 i;
        start_draw = eqb-true a.start_draw b.start_draw r8.1 i;
        duration_draw = eqb-true a.duration_draw b.duration_draw r9.1 i;
      },
    )

-- so they are the same, if their number says which id it is
pub same_event_lem : (a b : Event) → same_event a b ≡ true → (id_of a ≡ id_of b → a.id ≡ b.id) → a ≡ b
same_event_lem a b e number = let r = same_fields a b e in r.1 ∙ ap (λ i. renamed i b) (number r.0)

pub true_unused : (h : Entry) → unused h ≡ true → h ≡ no_entry
unfolding unused
true_unused h e =
    let r1 = each_true (same_event h.event no_event) _ e in
    let r2 = each_true (eqb h.begins 0) _ r1.1 in
    let r3 = each_true (eqb h.held 0) _ r2.1 in
    let r4 = each_true (not h.cancelled) _ r3.1 in
    let r5 = each_true (not h.choice.out) (not (any_counted h.choice)) r4.1 in
    let w = either_false h.choice.was_in h.choice.was_out (not-true (any_counted h.choice) r5.1) in
    λ i. record {
      event = same_event_lem h.event no_event r1.0 (λ n. zero_number h.event.id (n ∙ number_id 0)) i;
      begins = eqb-true h.begins 0 r2.0 i;
      held = eqb-true h.held 0 r3.0 i;
      cancelled = not-true h.cancelled r4.0 i;
      choice = record { out = not-true h.choice.out r5.0 i; was_in = w.0 i; was_out = w.1 i };
    }

-- the rules, one by one, of a schedule that passes the test
module _ (s : Schedule) (e : sound s ≡ true) where
  abbrev hs : List Entry
  hs = take s.count s.entries

  abbrev rest : List Entry
  rest = drop s.count s.entries

  pub record Rules : Type 0 where
    pub eight : length s.programs ≡ 8
    pub full : length s.entries ≡ most_events
    pub clock : s.clock ≤ last_clock
    pub count : s.count ≤ most_events
    pub programs : each sound_program s.programs ≡ true
    pub unused : each unused rest ≡ true
    pub ids : pairs ascending hs ≡ true
    pub entries : each (sound_entry s.programs s.clock) hs ≡ true
    pub apart : pairs apart hs ≡ true

  pub rules : Rules
  unfolding sound whole within_limits
  rules =
      let r1 = each_true (whole s) _ e in
      let r2 = each_true (within_limits s) _ r1.1 in
      let r3 = each_true (each sound_program s.programs) _ r2.1 in
      let r4 = each_true (each unused rest) _ r3.1 in
      let r5 = each_true (pairs ascending hs) _ r4.1 in
      let r6 = each_true (each (sound_entry s.programs s.clock) hs) (pairs apart hs) r5.1 in
      let w = each_true (eqb (length s.programs) 8) (eqb (length s.entries) most_events) r1.0 in
      let l = each_true (leb s.clock last_clock) (leb s.count most_events) r2.0 in
      record {
        eight = eqb-true (length s.programs) 8 w.0;
        full = eqb-true (length s.entries) most_events w.1;
        clock = leb-true s.clock last_clock l.0;
        count = leb-true s.count most_events l.1;
        programs = r3.0;
        unused = r4.0;
        ids = r5.0;
        entries = r6.0;
        apart = r6.1;
      }

  -- as many entries are in use as the count says
  pub in_count : length hs ≡ s.count
  in_count = length-take s.count s.entries ∙ omega (arith, rules.full, rules.count)

  pub sound_view : Sound (view s)
  sound_view = record {
    clock = rules.clock;
    eight = rules.eight;
    programs = λ p m. true_program p (each_all sound_program s.programs rules.programs p m);
    room = omega (arith, in_count, rules.count);
    ids = pairs_pairwise ById ascending true_ascending hs rules.ids;
    entries = λ h m. true_entry s.programs s.clock h (each_all (sound_entry s.programs s.clock) hs rules.entries h m);
    apart = pairs_pairwise Apart apart true_apart hs rules.apart;
  }

  -- a sound schedule is what it says, its unused places zero
  pub pad_view : pad (view s) ≡ s
  pad_view = λ i. record { clock = s.clock; count = in_count i; programs = s.programs; entries = entries i }
    where
      left : length rest ≡ most_events - length hs
      left = length-drop s.count s.entries ∙ omega (arith, rules.full, in_count)

      entries : hs ++ replicate (most_events - length hs) no_entry ≡ s.entries
      entries =
          ap (λ n. hs ++ replicate n no_entry) (sym left)
          ∙ ap (λ r. hs ++ r) (sym (replicated no_entry rest (λ h m. true_unused h (each_all unused rest rules.unused h m))))
          ∙ take-append-drop s.count s.entries
