-- What an event does at a moment, nothing, end, start or hold on; and a moment on slots, which is the moment of the definitions: what each event holds after it, and its rows.
use mathlib.Core.Path.{◌≡◌, refl, sym, ◌∙◌, ap, ap₂, fun_ext, subst}
use mathlib.Core.Logic.{◌⊎◌, inl, inr, ⊎_elim}
use Prim.Native.Nat.{ℕ, ◌<◌, ◌+◌, ◌-◌, ◌≤◌}
use native.Mathlib.Omega.{arith}
use native.Mathlib.Nat.{lt_of_not-le}
use mathlib.Core.Bool.{Bool, true, false, cond, not, ◌&&◌, ◌||◌, and-true, and-false, or-false}
use lib.Dec.{eqb}
use borrow.Author.Tests.{eqb-true, eqb-false, eq-eqb, ne_eqb, lt-leb, le-ltb}
use mathlib.Core.List.{List, ◌++◌, map, map-map}
use lib.Bits.{bit_and}
use lib.ListN.{length, get_or, length-append}
use Rattle.rules.specs.declared.Choice.{Choice}
use Rattle.rules.specs.declared.Entry.{Entry}
use Rattle.rules.specs.Holding.{end_of, claim, Holding, better, rank_of, held_at, carry, holding_at, with_holding, remarked}
use Rattle.rules.specs.Rows.{end_code, code_at, Row, row_of, rows_with, rows_from, rows_at, ending, superseded, starting}
use Rattle.rules.specs.declared.Program.{Program}
use Rattle.rules.specs.Lists.{keep, In}
use Rattle.rules.specs.Records.{has, cut, join, id_of, no_entry, most_events, most_rows}
use Rattle.rules.proofs.Tests.{cond_same, both, each_true}
use Rattle.rules.proofs.Claims.{claim_cancelled, claim_ended, code_cancelled}
use Rattle.rules.proofs.Masks.{has_and, has_cut, has_join, has_either}
use Rattle.rules.proofs.Nobody.{has_ext}
use Rattle.rules.proofs.Ranks.{better_self}
use Rattle.rules.proofs.ListLaws.{in_keep, keep_map, keep_cong, map_cong}
use Rattle.rules.proofs.Holders.{taken_has, has_taken, held_if, if_held}
use Rattle.calls.specs.declared.held.Head.{Head}
use Rattle.calls.specs.declared.clock.Due.{Due}
use Rattle.calls.specs.declared.clock.Standing.{Standing}
use Rattle.calls.specs.Moment.{Before, CanStart, Started, Released, Marked, Ahead, Past}
use Rattle.calls.specs.Slots.{slot_state}
use Rattle.calls.specs.Sets.{event_at, mask_at, masked, counting, rank_in, places_to, Holders, MasksOnly, HoldingsOnly, SecondCounted, kind_code, set_rows, SameFrom}
use Rattle.calls.specs.Settled.{Settled}
use Rattle.calls.specs.Written.{Written}
use Rattle.calls.proofs.Slots.{at_in, in_at, in_slots, slot_at}
use Rattle.calls.proofs.Puts.{rows_then}
use Rattle.calls.proofs.Sets.{place_below, by_place, keep_places}
use Rattle.calls.proofs.Contending.{sole, settled_on}
use Rattle.calls.proofs.Turns.{same_event_lem, same_rank, masks_trans, masks_holdings, holdings_trans, counted_holdings, counted_mask, counted_holders, settled_cong}

-- Phases: claim and code follow from what an event does.

pub data Phase (t : ℕ) (h : Entry) : Type 0 where
  idle : h.held ≡ 0 → (h.begins ≡ t → ⊥) ⊎ (h.cancelled ≡ true) → Phase t h
  ends : end_of h ≡ t → (h.held ≡ 0 → ⊥) → Phase t h
  starts : h.begins ≡ t → h.cancelled ≡ false → Phase t h
  holds : (h.held ≡ 0 → ⊥) → (end_of h ≡ t → ⊥) → Phase t h

pub phase : (t : ℕ) (h : Entry) → Phase t h
phase t h = go (eqb h.held 0) (eqb (end_of h) t) (eqb h.begins t) h.cancelled refl refl refl refl
  where
    go : (a b c d : Bool) → eqb h.held 0 ≡ a → eqb (end_of h) t ≡ b → eqb h.begins t ≡ c → h.cancelled ≡ d → Phase t h
    go false true c d p q r s = ends (eqb-true (end_of h) t q) (eqb-false h.held 0 p)
    go false false c d p q r s = holds (eqb-false h.held 0 p) (eqb-false (end_of h) t q)
    go true b true false p q r s = starts (eqb-true h.begins t r) s
    go true b true true p q r s = idle (eqb-true h.held 0 p) (inr s)
    go true b false d p q r s = idle (eqb-true h.held 0 p) (inl (eqb-false h.begins t r))

-- one that holds something is not cancelled
running : (h : Entry) → (h.cancelled ≡ true → h.held ≡ 0) → (h.held ≡ 0 → ⊥) → h.cancelled ≡ false
running h f d = go h.cancelled refl
  where
    go : (b : Bool) → h.cancelled ≡ b → b ≡ false
    go true e = absurd (d (f e))
    go false e = refl

module _ (t : ℕ) (h : Entry) (b : Before t h) where
  pub idle_claim : h.held ≡ 0 → (h.begins ≡ t → ⊥) ⊎ (h.cancelled ≡ true) → claim t h ≡ 0
  unfolding claim
  idle_claim z o = ⊎_elim (λ d. rw (ne_eqb h.begins t d, z, cond_same)) (claim_cancelled t h) o

  pub idle_code : (k : Holding) → h.held ≡ 0 → (h.begins ≡ t → ⊥) ⊎ (h.cancelled ≡ true) → code_at t h k ≡ 0
  unfolding code_at
  idle_code k z o = ⊎_elim (λ d. rw (ne_eqb h.begins t d, z, cond_same, cond_same)) (code_cancelled t h k) o

  module _ (e : end_of h ≡ t) (d : h.held ≡ 0 → ⊥) where
    pub end_code_lem : (k : Holding) → code_at t h k ≡ end_code h.choice
    unfolding code_at
    end_code_lem k = rw (running h b.stopped d, le-ltb (end_of h) t (omega arith), le-ltb t h.begins (omega (arith, b.short)), eq-eqb (end_of h) t e, ne_eqb h.held 0 d)

    pub end_begun : h.begins < t
    end_begun = omega (arith, b.short)

  module _ (e : h.begins ≡ t) (r : h.cancelled ≡ false) where
    pub start_claim : claim t h ≡ h.event.controls
    unfolding claim
    start_claim = rw (r, lt-leb (end_of h) t (omega (arith, b.short)), le-ltb t h.begins (omega arith), eq-eqb h.begins t e)

    pub start_code : (k : Holding) → code_at t h k ≡ cond (eqb k.held 0) 7 2
    unfolding code_at
    start_code k = rw (r, le-ltb (end_of h) t (omega (arith, b.short)), le-ltb t h.begins (omega arith), ne_eqb (end_of h) t (λ q. omega (arith, b.short)), eq-eqb h.begins t e)

    pub start_empty : h.held ≡ 0
    start_empty = b.early (omega arith)

  module _ (d : h.held ≡ 0 → ⊥) (o : end_of h ≡ t → ⊥) where
    lasts_on : t < end_of h
    lasts_on = lt_of_not-le (λ l. d (b.over (omega arith)))

    pub hold_begun : h.begins < t
    hold_begun = lt_of_not-le (λ l. d (b.early l))

    pub hold_claim : claim t h ≡ h.held
    unfolding claim
    hold_claim = rw (running h b.stopped d, lt-leb (end_of h) t lasts_on, le-ltb t h.begins (omega (arith, hold_begun)), ne_eqb h.begins t (λ q. omega (arith, hold_begun)))

    pub hold_code : (k : Holding) → code_at t h k ≡ cond (not (eqb k.held 0)) 0 7
    unfolding code_at
    hold_code k =
        rw (
          running h b.stopped d,
          le-ltb (end_of h) t (omega (arith, lasts_on)),
          le-ltb t h.begins (omega (arith, hold_begun)),
          ne_eqb (end_of h) t o,
          ne_eqb h.begins t (λ q. omega (arith, hold_begun)),
          ne_eqb h.held 0 d,
        )

-- What a phase says of the sets of a moment, and of the codes.

abbrev pub is_end : {t : ℕ} {h : Entry} → Phase t h → Bool
is_end (ends e d) = true
is_end (idle z o) = false
is_end (starts e r) = false
is_end (holds d o) = false

abbrev pub is_start : {t : ℕ} {h : Entry} → Phase t h → Bool
is_start (starts e r) = true
is_start (idle z o) = false
is_start (ends e d) = false
is_start (holds d o) = false

abbrev pub is_hold : {t : ℕ} {h : Entry} → Phase t h → Bool
is_hold (holds d o) = true
is_hold (idle z o) = false
is_hold (ends e d) = false
is_hold (starts e r) = false

-- the codes that a phase gives, where `on` says whether the event holds something afterwards
pub record Gives (code : ℕ) (end start hold on : Bool) : Type 0 where
  pub third : end ≡ ending code
  pub seventh : ((hold || start) && not on) ≡ eqb code 7
  pub second : (start && on) ≡ eqb code 2

-- an end gives none of the others
end_gives : (c : Choice) (on : Bool) → Gives (end_code c) true false false on
unfolding end_code
end_gives c on = go c.out c.was_in c.was_out
  where
    go : (o n u : Bool) → Gives (cond (not u) 3 (cond (not n) 10 (cond o 8 9))) true false false on
    go o n false = record { third = refl; seventh = refl; second = refl }
    go o false true = record { third = refl; seventh = refl; second = refl }
    go true true true = record { third = refl; seventh = refl; second = refl }
    go false true true = record { third = refl; seventh = refl; second = refl }

pub codes : (t : ℕ) (h : Entry) → Before t h → (k : Holding) (on : Bool) → on ≡ not (eqb k.held 0) → (p : Phase t h) → Gives (code_at t h k) (is_end p) (is_start p) (is_hold p) on
codes t h b k on e (idle z o) = rw (idle_code t h b k z o) (record { third = refl; seventh = refl; second = refl })
codes t h b k on e (ends q d) = rw (end_code_lem t h b q d k) (end_gives h.choice on)
codes t h b k on e (starts q r) = rw (start_code t h b q r k, e) (go (eqb k.held 0))
  where
    go : (x : Bool) → Gives (cond x 7 2) false true false (not x)
    go true = record { third = refl; seventh = refl; second = refl }
    go false = record { third = refl; seventh = refl; second = refl }
codes t h b k on e (holds d o) = rw (hold_code t h b d o k, e) (go (eqb k.held 0))
  where
    go : (x : Bool) → Gives (cond (not x) 0 7) false false true (not x)
    go true = record { third = refl; seventh = refl; second = refl }
    go false = record { third = refl; seventh = refl; second = refl }

pub claims : (t : ℕ) (h : Entry) → Before t h → (p : Phase t h) → cond (is_start p) h.event.controls (cond (is_end p) 0 h.held) ≡ claim t h
claims t h b (idle z o) = z ∙ sym (idle_claim t h b z o)
claims t h b (ends q d) = sym (claim_ended t h (omega arith))
claims t h b (starts q r) = sym (start_claim t h b q r)
claims t h b (holds d o) = sym (hold_claim t h b d o)

-- A moment on slots.

-- what does not hold is false
pub not-true : (b : Bool) → (b ≡ true → ⊥) → b ≡ false
not-true true f = absurd (f refl)
not-true false f = refl

module _ (d : Head) (w : List Entry) (fits : d.count ≤ length w) where
  abbrev n : ℕ
  n = d.count

  abbrev us : List Entry
  us = (slot_state d w).entries

  -- a place of the slots in use is a place of the list, and the other way
  pub us_at : (i : ℕ) → i < n → get_or us i no_entry ≡ event_at w i
  us_at = slot_at w n fits

  pub event_in_lem : (i : ℕ) → i < n → In (event_at w i) us
  event_in_lem i l = rw (us_at i l) at (at_in no_entry us i (omega (arith, in_slots w n fits)))

  pub in_event : (h : Entry) → In h us → (i : ℕ) × (i < n) × (event_at w i ≡ h)
  in_event h m =
      let q = in_at no_entry us h m in
      let l : q.0 < n = omega (arith, q.1, in_slots w n fits) in
      (q.0, l, sym (us_at q.0 l) ∙ q.2)

  pub us_are : us ≡ map (event_at w) (places_to n)
  us_are = by_place no_entry (event_at w) us n (in_slots w n fits) us_at

  -- What is settled among the claims of a moment is what the definition says.
  pub held_there : (t : ℕ) {kept : ℕ → ℕ} → Settled (rank_in d.programs w) n (λ i. claim t (event_at w i)) kept → (i : ℕ) → i < n → kept i ≡ held_at d.programs t us (event_at w i)
  held_there t {kept} s i l = has_ext (kept i) (held_at ps t us (event_at w i)) (λ k. (λ e. to k ((s.each i l k).0 e), λ e. (s.each i l k).1 (from k e)))
    where
      ps : List Program
      ps = d.programs

      Keeps : ℕ → Type 0
      Keeps k = (has (claim t (event_at w i)) k ≡ true) × ((o : ℕ) → o < n → has (claim t (event_at w o)) k ≡ true → better (rank_in ps w o) (rank_in ps w i) ≡ false)

      to : (k : ℕ) → Keeps k → has (held_at ps t us (event_at w i)) k ≡ true
      to k q = held_if ps t us k (event_at w i) q.0 (not-true _ (λ e. free (has_taken ps t (event_at w i) k us e)))
        where
          free : (o : Entry) × In o us × (better (rank_of ps o.event) (rank_in ps w i) ≡ true) × (has (claim t o) k ≡ true) → ⊥
          free r =
              let p = in_event r.0 r.1 in
              both _ (rw p.2 r.2) (q.1 p.0 p.1 (rw p.2 r.3))

      from : (k : ℕ) → has (held_at ps t us (event_at w i)) k ≡ true → Keeps k
      from k e =
          let q = if_held ps t us k (event_at w i) e in
          (q.0, λ o b h. not-true _ (λ z. both true refl (sym q.1 ∙ ap not (taken_has ps t (event_at w i) (event_at w o) k us (event_in_lem o b) z h))))

  -- The rows of a set of places are those of a kind, where the set is that of the events that give a code of it.
  pub rows_of : (t k set : ℕ) (kind : ℕ → Bool) (now : Entry → Holding) → n ≤ most_events → ((i : ℕ) → has set i ≡ true → i < n)
      → ((i : ℕ) → i < n → has set i ≡ kind (code_at t (event_at w i) (now (event_at w i))))
      → ((i : ℕ) → i < n → has set i ≡ true → kind_code k (event_at w i) ≡ code_at t (event_at w i) (now (event_at w i)))
      → set_rows t k w set ≡ rows_with t now us kind
  unfolding rows_with
  rows_of t k set kind now few inside gives code =
      let gap : most_events - n + n ≡ most_events = omega arith in
      ap (map row) (ap (λ m. keep (has set) (places_to m)) (sym gap) ∙ keep_places (has set) n (most_events - n) inside)
      ∙ map_cong row (λ i. row_of t now (event_at w i)) (keep (has set) (places_to n)) same_row
      ∙ sym (map-map (row_of t now) (event_at w) (keep (has set) (places_to n)))
      ∙ ap (λ l. map (row_of t now) (map (event_at w) l)) (keep_cong (has set) (λ i. test (event_at w i)) (places_to n) (λ i m. gives i (place_below n i m)))
      ∙ ap (map (row_of t now)) (sym (keep_map test (event_at w) (places_to n)) ∙ ap (keep test) (sym us_are))
    where
      test : Entry → Bool
      test h = kind (code_at t h (now h))

      row : ℕ → Row
      row i = record { time = t; id = id_of (event_at w i).event; code = kind_code k (event_at w i) }

      same_row : (i : ℕ) → In i (keep (has set) (places_to n)) → row i ≡ row_of t now (event_at w i)
      same_row i m =
          let q = in_keep (has set) i (places_to n) m in
          ap (λ c. record { time = t; id = id_of (event_at w i).event; code = c }) (code i (place_below n i q.0) q.1)

  -- of one code alone
  pub rows_of_code : (t k set : ℕ) (now : Entry → Holding) → eqb k 3 ≡ false → n ≤ most_events → ((i : ℕ) → has set i ≡ true → i < n)
      → ((i : ℕ) → i < n → has set i ≡ eqb (code_at t (event_at w i) (now (event_at w i))) k)
      → set_rows t k w set ≡ rows_with t now us (λ c. eqb c k)
  rows_of_code t k set now e few inside gives =
      rows_of t k set (λ c. eqb c k) now few inside gives (λ i l h. rw e (sym (eqb-true _ k (sym (gives i l) ∙ h))))

-- The rows of a set do not look at masks.
pub rows_same : {old new : List Entry} → MasksOnly old new → (t k set : ℕ) → set_rows t k new set ≡ set_rows t k old set
rows_same {old} {new} m t k set =
    map_cong (λ i. record { time = t; id = id_of (event_at new i).event; code = kind_code k (event_at new i) }) (λ i. record { time = t; id = id_of (event_at old i).event; code = kind_code k (event_at old i) })
    (keep (has set) (places_to most_events)) (λ i q. ap (λ h. record { time = t; id = id_of h.event; code = kind_code k h }) (m.each i))

-- Seconds counted.

-- what a second leaves of an event that holds m in it: a held second counts, if none has been counted since the clock
carried_by : (h : Entry) (m : ℕ) (on done : Bool) → on ≡ not (eqb m 0) → (done ≡ true → counting h ≡ h) → cond (on && not done) (counting (masked h m)) (masked h m) ≡ with_holding h (carry h m)
carried_by h m on done e f = go on done f ∙ ap after e
  where
    after : Bool → Entry
    after b = record {
      event = h.event;
      begins = h.begins;
      held = m;
      cancelled = h.cancelled;
      choice = record {
        out = h.choice.out;
        was_in = h.choice.was_in || (b && not h.choice.out);
        was_out = h.choice.was_out || (b && h.choice.out);
      };
    }

    go : (on done : Bool) → (done ≡ true → counting h ≡ h) → cond (on && not done) (counting (masked h m)) (masked h m) ≡ after on
    go true true f = ap (λ x. masked x m) (sym (f refl))
    go true false f = refl
    go false done f = λ i. record {
      event = h.event;
      begins = h.begins;
      held = m;
      cancelled = h.cancelled;
      choice = record { out = h.choice.out; was_in = sym (or-false h.choice.was_in) i; was_out = sym (or-false h.choice.was_out) i };
    }

-- twice is once
pub counting_twice : (h : Entry) → counting (counting h) ≡ counting h
counting_twice h = λ i. record {
  event = h.event;
  begins = h.begins;
  held = h.held;
  cancelled = h.cancelled;
  choice = record { out = h.choice.out; was_in = twice h.choice.was_in (not h.choice.out) i; was_out = twice h.choice.was_out h.choice.out i };
}
  where
    twice : (a b : Bool) → ((a || b) || b) ≡ (a || b)
    twice true b = refl
    twice false true = refl
    twice false false = refl

-- the holders are those whose mask is not 0
pub on_mask : {n : ℕ} (holding : ℕ) (w : List Entry) → Holders n w holding → (i : ℕ) → i < n → has holding i ≡ not (eqb (mask_at w i) 0)
on_mask {n} holding w h i l = go (eqb (mask_at w i) 0) refl
  where
    go : (x : Bool) → eqb (mask_at w i) 0 ≡ x → has holding i ≡ not x
    go true e = not-true _ (λ y. ((h i).0 y).1 (eqb-true (mask_at w i) 0 e))
    go false e = (h i).1 (l, eqb-false (mask_at w i) 0 e)

-- a quiet second, counted for those that hold something
pub quiet_counted : {n : ℕ} (holding : ℕ) (old : List Entry) {new : List Entry} → Holders n old holding → SecondCounted holding old new → (i : ℕ) → i < n → event_at new i ≡ remarked (event_at old i)
quiet_counted {n} holding old {new} h c i l =
    c.each i ∙ ap (λ b. cond b (counting (event_at old i)) (event_at old i)) (sym (and-true (has holding i)))
    ∙ carried_by (event_at old i) (mask_at old i) (has holding i) false (on_mask holding old h i l) (λ e. both true refl (sym e))

-- A moment, step by step.

module _ {d : Head} {w : List Entry} {t : ℕ} {due : Due} {s : Standing} {rows : List ℕ} (a : Ahead d w t due s rows) where
  abbrev ps : List Program
  ps = d.programs

  pub fits : d.count ≤ length w
  fits = omega (arith, a.held.used.few, a.held.used.size)

  abbrev ended : ℕ
  ended = bit_and due.ending s.holding

  ended_is : (i : ℕ) → has ended i ≡ (has due.ending i && has s.holding i)
  ended_is = has_and due.ending s.holding

  pub ended_in : (i : ℕ) → has ended i ≡ true → i < d.count
  ended_in i e = ((a.held.holders i).0 (each_true (has due.ending i) _ (sym (ended_is i) ∙ e)).1).0

  -- who has nothing is no holder
  empty : (i : ℕ) → (event_at w i).held ≡ 0 → has s.holding i ≡ false
  empty i z = not-true (has s.holding i) (λ e. ((a.held.holders i).0 e).1 z)

  abbrev the : (i : ℕ) → Phase t (event_at w i)
  the i = phase t (event_at w i)

  -- What ends gives its row, whatever comes of the others.

  ends_there : (i : ℕ) → i < d.count → has ended i ≡ is_end (the i)
  ends_there i l = ended_is i ∙ go (the i)
    where
      go : (p : Phase t (event_at w i)) → (has due.ending i && has s.holding i) ≡ is_end p
      go (ends q f) = rw ((a.ending i).1 (l, q), (a.held.holders i).1 (l, f))
      go (idle z o) = rw (empty i z, and-false)
      go (starts q c) = rw (empty i (start_empty t (event_at w i) (a.before i l) q c), and-false)
      go (holds f o) = rw (not-true (has due.ending i) (λ e. o ((a.ending i).0 e).1))

  abbrev now : Entry → Holding
  now h = holding_at ps t (slot_state d w).entries h

  ends_rows : set_rows t 3 w ended ≡ rows_with t now (slot_state d w).entries ending
  ends_rows = rows_of d w fits t 3 ended ending now a.held.used.few ended_in
      (λ i l. ends_there i l ∙ (codes t (event_at w i) (a.before i l) (now (event_at w i)) _ refl (the i)).third)
      (λ i l h. go i l (the i) (sym (ends_there i l) ∙ h))
    where
      go : (i : ℕ) → i < d.count → (p : Phase t (event_at w i)) → is_end p ≡ true → end_code (event_at w i).choice ≡ code_at t (event_at w i) (now (event_at w i))
      go i l (ends q f) e = sym (end_code_lem t (event_at w i) (a.before i l) q f (now (event_at w i)))
      go i l (idle z o) e = both false e refl
      go i l (starts q c) e = both false e refl
      go i l (holds f o) e = both false e refl

  pub first_room : s.rows + length (set_rows t 3 w ended) ≤ most_rows
  unfolding rows_at rows_from
  first_room = omega (arith, a.room, ap length ends_rows, length-append (rows_with t now (slot_state d w).entries ending) (rows_with t now (slot_state d w).entries superseded ++ rows_with t now (slot_state d w).entries starting))

  -- What has ended is let go.

  module _ {mid : List Entry} {before : ℕ} (r : Released ended s.holding w mid before) where
    record Marks (i : ℕ) (start hold : Bool) : Type 0 where
      holding : has before i ≡ hold
      starting : has due.starting i ≡ start

    marks : (i : ℕ) → i < d.count → Marks i (is_start (the i)) (is_hold (the i))
    marks i l = go (the i) (ends_there i l)
      where
        later : ((event_at w i).begins ≡ t → ⊥) → has due.starting i ≡ false
        later q = not-true (has due.starting i) (λ e. q ((a.starting i).0 e).1.0)

        go : (p : Phase t (event_at w i)) → has ended i ≡ is_end p → Marks i (is_start p) (is_hold p)
        go (idle z o) e = record {
          holding = r.holders i ∙ (rw (empty i z));
          starting = ⊎_elim later (λ q. not-true (has due.starting i) (λ y. both (event_at w i).cancelled q ((a.starting i).0 y).1.1)) o;
        }
        go (ends q f) e = record {
          holding = r.holders i ∙ (rw (e, and-false));
          starting = later (λ z. omega (arith, end_begun t (event_at w i) (a.before i l) q f));
        }
        go (starts q c) e = record {
          holding = r.holders i ∙ (rw (empty i (start_empty t (event_at w i) (a.before i l) q c)));
          starting = (a.starting i).1 (l, (q, c));
        }
        go (holds f o) e = record {
          holding = r.holders i ∙ (rw (e, (a.held.holders i).1 (l, f)));
          starting = later (λ y. omega (arith, hold_begun t (event_at w i) (a.before i l) f o));
        }

    -- what is left of a mask
    mask_less : (i k : ℕ) → has (mask_at mid i) k ≡ true → has (mask_at w i) k ≡ true
    mask_less i k e = has_either (has ended i) (mask_at w i) k (rw (r.released i) at e)

    pub can_start : CanStart d mid before due.starting
    can_start = record {
      held = record {
        used = record { few = a.held.used.few; size = r.masks.size };
        numbered = λ i l. rw (same_event_lem r.masks i) (a.held.numbered i l);
        holders = holders;
      };
      distinct = λ i j l m e. a.distinct i j l m (ap id_of (sym (same_event_lem r.masks i)) ∙ e ∙ ap id_of (same_event_lem r.masks j));
      settled = record { each = λ i l k. (λ e. (e, λ o m f. let z = a.apart o i k m l (mask_less o k f) (mask_less i k e) in rw z (better_self (rank_in ps mid i))), λ q. q.0) };
      empty = λ i e. let q = (a.starting i).0 e in (q.0, r.released i ∙ none (has ended i) ((a.before i q.0).early (omega (arith, q.1.0))));
    }
      where
        none : {m : ℕ} (x : Bool) → m ≡ 0 → cond x 0 m ≡ 0
        none true z = refl
        none false z = z

        holders : Holders d.count mid before
        holders i = (
          λ e. let q = each_true (has s.holding i) _ (sym (r.holders i) ∙ e) in
              let z = (a.held.holders i).0 q.0 in
              (z.0, λ y. z.1 (sym (r.released i ∙ (rw (not_not (has ended i) q.1))) ∙ y)),
          λ q. r.holders i ∙ go (has ended i) refl q.0 q.1,
        )
          where
            not_not : (x : Bool) → not x ≡ true → x ≡ false
            not_not true e = sym e
            not_not false e = refl

            go : (x : Bool) → has ended i ≡ x → i < d.count → (mask_at mid i ≡ 0 → ⊥) → (has s.holding i && not x) ≡ true
            go true e l f = absurd (f (r.released i ∙ (rw e)))
            go false e l f = rw ((a.held.holders i).1 (l, λ z. f (r.released i ∙ (rw e z))))

    -- What begins has contended.

    module _ {new : List Entry} {held : ℕ} (q : Started d due.starting mid new held) where
      pub all_masks : MasksOnly w new
      all_masks = masks_trans r.masks q.masks

      settles : Settled (rank_in ps w) d.count (λ i. cond (has due.starting i) (event_at w i).event.controls (cond (has ended i) 0 (mask_at w i))) (mask_at new)
      settles =
          subst (λ rank. Settled rank d.count (λ i. cond (has due.starting i) (event_at w i).event.controls (cond (has ended i) 0 (mask_at w i))) (mask_at new)) (fun_ext (same_rank r.masks ps))
          (settled_cong (λ i. ap₂ (cond (has due.starting i)) (ap (λ e. e.controls) (same_event_lem r.masks i)) (r.released i)) q.settled)

      pub settled : (i : ℕ) → i < d.count → mask_at new i ≡ held_at ps t (slot_state d w).entries (event_at w i)
      settled = held_there d w fits t (settled_on settles (λ i l. rw (ends_there i l, (marks i l).starting) (claims t (event_at w i) (a.before i l) (the i))))

      gives : (i : ℕ) → i < d.count → Gives (code_at t (event_at w i) (now (event_at w i))) (is_end (the i)) (is_start (the i)) (is_hold (the i)) (has held i)
      unfolding holding_at
      gives i l = codes t (event_at w i) (a.before i l) (now (event_at w i)) (has held i) (rw (← settled i l) (on_mask held new q.holders i l)) (the i)

      abbrev losing : ℕ
      losing = cut (join before due.starting) held

      abbrev beginning : ℕ
      beginning = bit_and due.starting held

      losing_is : (i : ℕ) → has losing i ≡ ((has before i || has due.starting i) && not (has held i))
      losing_is i = has_cut (join before due.starting) held i ∙ ap (λ x. x && not (has held i)) (has_join before due.starting i)

      pub losing_in : (i : ℕ) → has losing i ≡ true → i < d.count
      losing_in i e = go (has before i) refl (each_true (has before i || has due.starting i) _ (sym (losing_is i) ∙ e)).0
        where
          go : (x : Bool) → has before i ≡ x → (x || has due.starting i) ≡ true → i < d.count
          go true y f = ((can_start.held.holders i).0 y).0
          go false y f = ((a.starting i).0 f).0

      starting_is : (i : ℕ) → has beginning i ≡ (has due.starting i && has held i)
      starting_is = has_and due.starting held

      pub starting_in : (i : ℕ) → has beginning i ≡ true → i < d.count
      starting_in i e = ((a.starting i).0 (each_true (has due.starting i) _ (sym (starting_is i) ∙ e)).0).0

      few : d.count ≤ most_events
      few = a.held.used.few

      losing_rows : set_rows t 7 new losing ≡ rows_with t now (slot_state d w).entries superseded
      losing_rows =
          rows_same all_masks t 7 losing
          ∙ rows_of_code d w fits t 7 losing now refl few losing_in (λ i l. let m = marks i l in losing_is i ∙ (rw (m.holding, m.starting) (gives i l).seventh))

      starting_rows : set_rows t 2 new beginning ≡ rows_with t now (slot_state d w).entries starting
      starting_rows =
          rows_same all_masks t 2 beginning
          ∙ rows_of_code d w fits t 2 beginning now refl few starting_in (λ i l. starting_is i ∙ (rw (marks i l).starting (gives i l).second))

      all_rows : set_rows t 3 w ended ++ (set_rows t 7 new losing ++ set_rows t 2 new beginning) ≡ rows_at ps t (slot_state d w).entries
      unfolding rows_at rows_from
      all_rows = ap₂ ◌++◌ ends_rows (ap₂ ◌++◌ losing_rows starting_rows)

      -- there is room for them
      pub room : s.rows + length (set_rows t 3 w ended) + (length (set_rows t 7 new losing) + length (set_rows t 2 new beginning)) ≤ most_rows
      room = omega (
        arith,
        a.room,
        ap length all_rows,
        length-append (set_rows t 3 w ended) (set_rows t 7 new losing ++ set_rows t 2 new beginning),
        length-append (set_rows t 7 new losing) (set_rows t 2 new beginning),
      )

      abbrev fresh : ℕ
      fresh = cut held s.counted

      fresh_is : (i : ℕ) → has fresh i ≡ (has held i && not (has s.counted i))
      fresh_is i = has_cut held s.counted i

      pub fresh_in : (i : ℕ) → has fresh i ≡ true → i < d.count
      fresh_in i e = ((q.holders i).0 (each_true (has held i) _ (sym (fresh_is i) ∙ e)).0).0

      -- The second is counted.

      module _ {last : List Entry} (c : SecondCounted fresh new last) where
        all_holdings : HoldingsOnly w last
        all_holdings = holdings_trans (masks_holdings all_masks) (counted_holdings c)

        abbrev mask : ℕ → ℕ
        mask i = mask_at new i

        carries : (i : ℕ) → i < d.count → event_at last i ≡ with_holding (event_at w i) (carry (event_at w i) (mask i))
        carries i l =
            c.each i
            ∙ ap (λ h. cond (has fresh i) (counting h) h) (all_masks.each i)
            ∙ ap (λ b. cond b (counting (masked (event_at w i) (mask i))) (masked (event_at w i) (mask i))) (fresh_is i)
            ∙ carried_by (event_at w i) (mask i) (has held i) (has s.counted i) (on_mask held new q.holders i l) (a.counted i l)

        all_settled : (i : ℕ) → i < d.count → event_at last i ≡ with_holding (event_at w i) (holding_at ps t (slot_state d w).entries (event_at w i))
        unfolding holding_at
        all_settled i l = carries i l ∙ ap (λ m. with_holding (event_at w i) (carry (event_at w i) m)) (settled i l)

        all_counted : Marked d last (join s.counted held)
        all_counted i l e = go (has fresh i) (has held i) refl refl
          where
            -- counted now
            now_counted : has fresh i ≡ true → counting (event_at last i) ≡ event_at last i
            now_counted f = let z : event_at last i ≡ counting (event_at new i) = c.each i ∙ (rw f) in rw z (counting_twice (event_at new i))

            -- counted before
            then_counted : has fresh i ≡ false → has s.counted i ≡ true → counting (event_at last i) ≡ event_at last i
            then_counted f h =
                let z : event_at last i ≡ masked (event_at w i) (mask i) = c.each i ∙ (rw f) ∙ all_masks.each i in
                rw z (ap (λ x. masked x (mask i)) (a.counted i l h))

            go : (x y : Bool) → has fresh i ≡ x → has held i ≡ y → counting (event_at last i) ≡ event_at last i
            go true y f h = now_counted f
            go false y f h = then_counted f (was (has s.counted i) y refl h (sym (fresh_is i) ∙ f) (sym (has_join s.counted held i) ∙ e))
              where
                was : (b y : Bool) → has s.counted i ≡ b → has held i ≡ y → (has held i && not (has s.counted i)) ≡ false → (has s.counted i || has held i) ≡ true → has s.counted i ≡ true
                was true y p h u v = p
                was false true p h u v = both true refl (rw (h, p) at u)
                was false false p h u v = both false (rw (h, p) at v) refl

        -- no set has a place behind those in use
        all_behind : SameFrom d.count w last
        all_behind j l =
            let none : has fresh j ≡ false = not-true (has fresh j) (λ e. omega (arith, fresh_in j e)) in
            let over : has ended j ≡ false = not-true (has ended j) (λ e. omega (arith, ended_in j e)) in
            c.each j ∙ rw none (q.behind j l) ∙ r.masks.each j ∙ ap (masked (event_at w j)) (r.released j ∙ rw over)

        pub past : {r1 r2 r3 : List ℕ} {k1 k2 k3 : ℕ} → Written rows s.rows r1 k1 (set_rows t 3 w ended) → Written r1 k1 r2 k2 (set_rows t 7 new losing) → Written r2 k2 r3 k3 (set_rows t 2 new beginning)
            → Past d w last t s rows r3 (record { holding = held; counted = join s.counted held; rows = k3 })
        past {r3 = r3} {k3 = k3} x y z = record {
          holdings = all_holdings;
          behind = all_behind;
          holders = counted_holders held c q.holders;
          settled = all_settled;
          counted = all_counted;
          apart = λ i j k l m e f. sole settles a.distinct k i j l m (rw (counted_mask c i) at e) (rw (counted_mask c j) at f);
          written = subst (Written rows s.rows r3 k3) all_rows (rows_then x (rows_then y z));
        }
