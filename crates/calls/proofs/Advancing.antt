-- The loop over moments. Nothing is dropped on the way: what has ended claims nothing and gives no row. What was passed and what is left make up the whole, and the slots say where the events stand.
use mathlib.Core.Path.{◌≡◌, refl, sym, ap, ◌∙◌, fun_ext, subst}
use Prim.Native.Nat.{ℕ, suc, ◌+◌, ◌-◌, ◌≤◌, zero, ◌*◌, ◌/◌, ◌<◌}
use mathlib.Core.Bool.{Bool, true, false, not, ◌&&◌, ◌||◌, or-true}
use mathlib.Core.List.{List, [], map, ◌++◌, map-map, append_assoc, append-nil}
use native.Mathlib.Omega.{arith, by_contra}
use borrow.Author.Tests.{ltb-false, lt-ltb, le-ltb, ltb-true}
use mathlib.Core.Logic.{◌⊎◌, inl, inr}
use native.Mathlib.Nat.{lt_of_not-le}
use lib.Bits.{bit_or}
use lib.Dec.{ltb}
use lib.ListN.{length, take, get_or, length-append}
use Rattle.rules.specs.declared.Entry.{Entry}
use Rattle.rules.specs.declared.Program.{Program}
use Rattle.rules.specs.Lists.{keep, In, All, Pairwise}
use Rattle.rules.specs.Records.{State, cut, last_clock, has, join, id_of, no_entry, pad, most_rows, view}
use Rattle.rules.specs.Holding.{claim, taken, held_at, Holding, carry, holding_at, with_holding, remarked, end_of}
use Rattle.rules.specs.Rows.{code_at, rows_from, rows_at, Row}
use Rattle.rules.specs.declared.Schedule.{Schedule}
use Rattle.rules.specs.Sound.{sound}
use Rattle.rules.specs.Moments.{lasts, entries_from, second, advance, passed}
use Rattle.rules.specs.Bytes.{bytes, rows_size}
use Rattle.rules.proofs.ListLaws.{keep_in, keep_map, keep_keep, keep_cong, map_same, keep_all, in_keep, map_cong}
use Rattle.rules.proofs.Claims.{claim_ended, code_ended, taken_keep, rows_eq, gives_none, claim_early, claim_cancelled, nothing_held}
use Rattle.rules.proofs.SoundState.{Sound, sound_pad, sound_view}
use Rattle.rules.proofs.SoundKept.{sound_advance}
use Rattle.rules.proofs.Jump.{marks_in, carried_twice, onward, advance_add, Idle, idle}
use Rattle.rules.proofs.Tests.{both, each_true}
use Rattle.rules.proofs.Masks.{has_join, has_none, not_has}
use Rattle.rules.proofs.Bound.{few_rows}
use Rattle.calls.specs.declared.held.Head.{Head}
use Rattle.calls.specs.declared.agenda.Taken.{Taken}
use Rattle.calls.specs.declared.clock.Due.{Due}
use Rattle.calls.specs.declared.clock.Standing.{Standing}
use Rattle.calls.specs.Slots.{head_of, slot_state, schedule_of, Unused, Ready}
use Rattle.calls.specs.Sets.{event_at, mask_at, counting, places_to, Numbered, SetOf, Holders, SameFrom, HoldingsOnly, SecondCounted, set_width}
use Rattle.calls.specs.Agenda.{Agenda, TakenTo, second_width}
use Rattle.calls.specs.Moment.{Distinct, OneHolderIn, Before, Marked, Steady, Ahead, Past}
use Rattle.calls.specs.Written.{Written}
use Rattle.calls.specs.Advanced.{Opened, Passes, Advanced}
use Rattle.calls.specs.Finished.{Finished}
use Rattle.calls.proofs.Slots.{pairwise_at, in_slots, within, view_of, sound_of, unused, says}
use Rattle.calls.proofs.Puts.{no_row, rows_then}
use Rattle.calls.proofs.Sets.{place_below}
use Rattle.calls.proofs.Turns.{held_event, holdings_trans, counted_holdings, counted_mask, counted_holders}
use Rattle.calls.proofs.Moments.{not-true, us_at, event_in_lem, in_event, us_are, counting_twice, quiet_counted}
use Rattle.calls.proofs.Changes.{Reached, begin, later, reach_quiet, no_start, no_end, ending, starting, reach_next}

-- Moments over a list from which nothing is dropped.

-- every entry after moment t, ended ones too
abbrev pub settled_at : List Program → ℕ → List Entry → List Entry
settled_at ps t us = map (λ h. with_holding h (holding_at ps t us h)) us

module _ (ps : List Program) (c : ℕ) (us : List Entry) where
  abbrev t : ℕ
  t = suc c

  abbrev remaining : List Entry
  remaining = keep (lasts c) us

  held_same : holding_at ps t remaining ≡ holding_at ps t us
  unfolding holding_at held_at
  held_same = fun_ext (λ h. ap (λ m. carry h (cut (claim t h) m))
      (ap (λ l. taken ps t l h) (sym (map_same (λ x. x) remaining (λ x m. refl)))
      ∙ taken_keep ps t h (λ x. x) (lasts c) us (λ x m e. claim_ended t x (omega (arith, ltb-false c (end_of x) e)))
      ∙ ap (λ l. taken ps t l h) (map_same (λ x. x) us (λ x m. refl))))

  rows_same : rows_at ps t remaining ≡ rows_at ps t us
  unfolding rows_at
  rows_same = ap (λ is. rows_from t is remaining) held_same ∙ rows_eq t is remaining us (λ kind e. keep_keep (λ h. kind (code_at t h (is h))) (lasts c) us
      (λ x m d. gives_none t is kind x e (code_ended t x (is x) (omega (arith, ltb-false c (end_of x) d)))))
    where
      is : Entry → Holding
      is = holding_at ps t us

  entries_same : entries_from t (holding_at ps t remaining) remaining ≡ keep (lasts t) (settled_at ps t us)
  unfolding entries_from
  entries_same =
      ap (λ is. map (λ h. with_holding h (is h)) (keep (lasts t) remaining)) held_same
      ∙ ap (map step) (keep_keep (lasts t) (lasts c) us (λ x m e. le-ltb t (end_of x) (omega (arith, ltb-false c (end_of x) e))))
      ∙ sym (keep_map (lasts t) step us)
    where
      step : Entry → Entry
      step h = with_holding h (holding_at ps t us h)

-- a second, of a state whose entries are those that last
pub second_undropped : (ps : List Program) (c : ℕ) (us : List Entry)
    → second (record { clock = c; programs = ps; entries = keep (lasts c) us })
    ≡ record { state = record { clock = suc c; programs = ps; entries = keep (lasts (suc c)) (settled_at ps (suc c) us) }; rows = rows_at ps (suc c) us }
unfolding second
second_undropped ps c us = λ i. record { state = record { clock = suc c; programs = ps; entries = entries_same ps c us i }; rows = rows_same ps c us i }

-- the state at a clock
abbrev pub state_in : List Program → List Entry → ℕ → State
state_in ps us c = record { clock = c; programs = ps; entries = keep (lasts c) us }

-- nothing ends between the clock and the moment after n seconds
kept_later : (us : List Entry) (c n : ℕ) → All (Idle c n) (keep (lasts c) us) → keep (lasts c) us ≡ keep (lasts (c + n)) us
kept_later us c n i = keep_cong (lasts c) (lasts (c + n)) us (λ h m. go h m (lasts c h) refl)
  where
    go : (h : Entry) → In h us → (b : Bool) → lasts c h ≡ b → b ≡ lasts (c + n) h
    go h m true e = sym (lt-ltb (c + n) (end_of h) (i h (keep_in (lasts c) h us m e)).ends)
    go h m false e = sym (le-ltb (c + n) (end_of h) (omega (arith, ltb-false c (end_of h) e)))

-- marks that are set stay as they are
same_marks : (n : ℕ) (us : List Entry) → (0 < n → All (λ h. remarked h ≡ h) us) → marks_in n us ≡ us
same_marks zero us f = refl
same_marks (suc n) us f = map_same remarked us (f (omega arith))

-- a quiet second sets the marks of choices
pub quiet_second : (ps : List Program) (us : List Entry) (c : ℕ) → Sound (state_in ps us c) → c + 1 ≤ last_clock → All (Idle c 1) (keep (lasts c) us)
    → advance 1 (state_in ps us c) ≡ record { state = state_in ps (map remarked us) (c + 1); rows = [] }
quiet_second ps us c v l i =
    idle 1 (state_in ps us c) v l i
    ∙ ap (λ hs. record { state = record { clock = c + 1; programs = ps; entries = hs }; rows = [] }) (ap (map remarked) (kept_later us c 1 i) ∙ sym (keep_map (lasts (c + 1)) remarked us))

module _ (ps : List Program) (us : List Entry) (c n : ℕ) (v : Sound (state_in ps us c)) (l : c + n ≤ last_clock) (i : All (Idle c n) (keep (lasts c) us))
    (m : 0 < n → All (λ h. remarked h ≡ h) (keep (lasts c) us)) where
  idle_state : advance n (state_in ps us c) ≡ record { state = state_in ps us (c + n); rows = [] }
  idle_state =
      idle n (state_in ps us c) v l i
      ∙ ap (λ hs. record { state = record { clock = c + n; programs = ps; entries = hs }; rows = [] }) (same_marks n (keep (lasts c) us) m ∙ kept_later us c n i)

  -- n seconds in which nothing happens
  pub quiet_to : (to : ℕ) → to ≡ c + n → advance (to - c) (state_in ps us c) ≡ record { state = state_in ps us to; rows = [] }
  quiet_to to e =
      let d : to - c ≡ n = omega arith in
      ap (λ k. advance k (state_in ps us c)) d ∙ idle_state ∙ ap (λ k. record { state = state_in ps us k; rows = [] }) (sym e)

  -- and then the next moment, and the rest
  pub moment_then : (u to : ℕ) → u ≡ suc (c + n) → u ≤ to
      → advance (to - c) (state_in ps us c)
      ≡ onward (record { state = state_in ps (settled_at ps u us) u; rows = rows_at ps u us }) (advance (to - u) (state_in ps (settled_at ps u us) u))
  unfolding advance
  moment_then u to e h =
      let rest = to - u in
      let d : to - c ≡ n + suc rest = omega arith in
      ap (λ k. advance k (state_in ps us c)) d
      ∙ advance_add n (suc rest) (state_in ps us c)
      ∙ ap (λ m. onward m (advance (suc rest) m.state)) idle_state
      ∙ ap (λ o. onward o (advance rest o.state)) (second_undropped ps (c + n) us)
      ∙ ap (λ k. onward (record { state = state_in ps (settled_at ps k us) k; rows = rows_at ps k us }) (advance rest (state_in ps (settled_at ps k us) k))) (sym e)

  pub sound_moment : (u : ℕ) → u ≡ suc (c + n) → u ≤ last_clock → Sound (state_in ps (settled_at ps u us) u)
  unfolding advance
  sound_moment u e h =
      let z : u - u ≡ 0 = omega arith in
      let w : Sound (advance (u - c) (state_in ps us c)).state = sound_advance (u - c) (state_in ps us c) v (omega arith) in
      subst (λ m. Sound m.state) (moment_then u u e (omega arith) ∙ ap (λ k. onward (record { state = state_in ps (settled_at ps u us) u; rows = rows_at ps u us }) (advance k (state_in ps (settled_at ps u us) u))) z) w

-- The loop.

-- What sound slots say of places.

module _ {d : Head} {w : List Entry} (r : Ready d w) where
  -- of two places that are not the same one comes first
  apart_at : {P : ℕ → ℕ → Type 0} → ((i j : ℕ) → i < j → j < d.count → P i j → ⊥) → ((i j : ℕ) → P i j → P j i) → (i j : ℕ) → i < d.count → j < d.count → P i j → i ≡ j
  apart_at f g i j l m p = go (ltb i j) (ltb j i) refl refl
    where
      go : (a b : Bool) → ltb i j ≡ a → ltb j i ≡ b → i ≡ j
      go true b x y = absurd (f i j (ltb-true i j x) m p)
      go false true x y = absurd (f j i (ltb-true j i y) l (g i j p))
      go false false x y = omega (arith, ltb-false i j x, ltb-false j i y)

  pair_at : (R : Entry → Entry → Type 0) → Pairwise R (slot_state d w).entries → (i j : ℕ) → i < j → j < d.count → R (event_at w i) (event_at w j)
  pair_at R h i j l m =
      subst (λ x. R x (event_at w j)) (us_at d w (within r) i (omega arith))
      (subst (R (get_or (slot_state d w).entries i no_entry)) (us_at d w (within r) j m) (pairwise_at R no_entry (slot_state d w).entries h i j l (omega (arith, in_slots w d.count (within r)))))

  pub distinct : Distinct d w
  distinct = apart_at (λ i j l m e. omega (arith, pair_at _ (sound_of r).ids i j l m)) (λ i j e. sym e)

  pub one_holder : OneHolderIn d w
  one_holder i j k l m p q = apart_at {P = λ i j. (has (mask_at w i) k ≡ true) × (has (mask_at w j) k ≡ true)} (λ i j l m e. pair_at _ (sound_of r).apart i j l m k e.0 e.1) (λ i j e. (e.1, e.0)) i j l m (p, q)

  pub numbered : Numbered d.count w
  numbered i l = omega (arith, ((sound_of r).entries (event_at w i) (event_in_lem d w (within r) i l)).numbered)

  pub ends_later : (i : ℕ) → i < d.count → d.clock < end_of (event_at w i)
  ends_later i l = ((sound_of r).entries (event_at w i) (event_in_lem d w (within r) i l)).lasts

  pub at_first : (i : ℕ) → i < d.count → Before (d.clock + 1) (event_at w i)
  at_first i l =
      let v = (sound_of r).entries (event_at w i) (event_in_lem d w (within r) i l) in
      record { short = v.short; early = λ h. v.early (omega arith); over = λ h. absurd (omega (arith, v.lasts)); stopped = v.stopped }

  -- nothing has ended
  pub standing : slot_state d w ≡ state_in d.programs (slot_state d w).entries d.clock
  standing =
      ap (λ hs. record { clock = d.clock; programs = d.programs; entries = hs })
      (sym (keep_all (lasts d.clock) (slot_state d w).entries (λ o m. lt-ltb d.clock (end_of o) ((sound_of r).entries o m).lasts)))

-- After the moments up to a clock.

pub record Going (d : Head) (w : List Entry) (to : ℕ) (agenda old : List ℕ) (now : List Entry) (rows : List ℕ) (s : Standing) (ended clock k : ℕ) : Type 0 where
  pub ready : Ready d w
  pub planned : Agenda d.clock to d.count w agenda
  pub last : to ≤ last_clock
  pub size : length old ≡ rows_size
  pub from : d.clock ≤ clock
  pub order : clock ≤ to
  pub reached : Reached agenda clock k
  pub holdings : HoldingsOnly w now
  pub behind : SameFrom d.count w now
  pub holders : Holders d.count now s.holding
  pub counted : Marked d now s.counted
  pub before : (i : ℕ) → i < d.count → Before (clock + 1) (event_at now i)
  pub apart : OneHolderIn d now
  pub over : SetOf d.count (λ i. end_of (event_at now i) ≤ clock) ended
  -- the rows so far
  pub done : List Row
  pub state : Sound (state_in d.programs (slot_state d now).entries clock)
  pub split : passed (slot_state d w) to
      ≡ onward (record { state = state_in d.programs (slot_state d now).entries clock; rows = done }) (advance (to - clock) (state_in d.programs (slot_state d now).entries clock))
  pub written : Written old 0 rows s.rows done

pub start : {d : Head} {w : List Entry} {to : ℕ} {agenda old : List ℕ} {holding : ℕ} → Ready d w → Agenda d.clock to d.count w agenda → d.clock ≤ to → to ≤ last_clock → length old ≡ rows_size
    → Holders d.count w holding → Going d w to agenda old w old (record { holding = holding; counted = 0; rows = 0 }) 0 d.clock 0
start {d} {w} {to} {agenda} {old} r g h l size holders = record {
  ready = r;
  planned = g;
  last = l;
  size = size;
  from = omega arith;
  order = h;
  reached = begin g r.used.few l h (ends_later r);
  holdings = record { size = r.used.size; each = λ i. refl };
  behind = λ j l. refl;
  holders = holders;
  counted = λ i l e. not_has 0 i refl e;
  before = at_first r;
  apart = one_holder r;
  over = λ i. (λ e. not_has 0 i refl e, λ q. absurd (omega (arith, q.1, ends_later r i q.0)));
  done = [];
  state = subst Sound (standing r) (sound_of r);
  split = ap (λ v. advance (to - d.clock) v) (standing r);
  written = no_row old 0;
}

module _ {d : Head} {w : List Entry} {to : ℕ} {agenda old : List ℕ} {now : List Entry} {rows : List ℕ} {s : Standing} {ended clock k : ℕ} (g : Going d w to agenda old now rows s ended clock k) where
  abbrev ps : List Program
  ps = d.programs

  abbrev hs : List Entry
  hs = (slot_state d now).entries

  few : d.count ≤ length now
  few = omega (arith, g.ready.used.few, g.holdings.size)

  same_end : (i : ℕ) → end_of (event_at now i) ≡ end_of (event_at w i)
  same_end i = ap end_of (g.holdings.each i)

  same_begin : (i : ℕ) → (event_at now i).begins ≡ (event_at w i).begins
  same_begin i = ap (λ h. h.begins) (g.holdings.each i)

  same_stopped : (i : ℕ) → (event_at now i).cancelled ≡ (event_at w i).cancelled
  same_stopped i = ap (λ h. h.cancelled) (g.holdings.each i)

  -- where a quiet second sets no mark, it is so of each that lasts
  steady_all : Steady d now → All (λ h. remarked h ≡ h) (keep (lasts clock) hs)
  steady_all st o m = let p = in_event d now few o (in_keep (lasts clock) o hs m).0 in subst (λ h. remarked h ≡ h) p.2 (st p.0 p.1)

  module _ (t : ℕ) (e : t ≡ get_or agenda k 0 / second_width) where
    pub next_later : clock < t
    next_later = later g.planned g.ready.used.few g.last g.reached g.from e

    -- Nothing begins or ends before the next moment.

    module _ (u : ℕ) (b : u < t) (c : u ≤ to) where
      clear_start : (i : ℕ) → i < d.count → (event_at w i).cancelled ≡ false → clock < (event_at w i).begins → u < (event_at w i).begins
      clear_start i l o h = lt_of_not-le (λ m. omega (arith, no_start g.planned g.ready.used.few g.last g.reached g.from e i l o h (omega arith)))

      clear_end : (i : ℕ) → i < d.count → clock < end_of (event_at w i) → u < end_of (event_at w i)
      clear_end i l h = lt_of_not-le (λ m. omega (arith, no_end g.planned g.ready.used.few g.last g.reached g.from e i l h (omega arith)))

      still : clock ≤ u → All (Idle clock (u - clock)) (keep (lasts clock) hs)
      still a o m =
          let q = in_keep (lasts clock) o hs m in
          let p = in_event d now few o q.0 in
          subst (Idle clock (u - clock)) p.2 (idle_at p.0 p.1 (subst (λ h. clock < end_of h) (sym p.2) (ltb-true clock (end_of o) q.1)))
        where
          there : clock + (u - clock) ≡ u
          there = omega arith

          idle_at : (i : ℕ) → i < d.count → clock < end_of (event_at now i) → Idle clock (u - clock) (event_at now i)
          idle_at i l h = record {
            begins = λ o. rw (there, same_begin i) (go (sym (same_stopped i) ∙ o) (ltb clock (event_at w i).begins) refl);
            ends = rw (there, same_end i) (clear_end i l (rw (same_end i) at h));
          }
            where
              go : (event_at w i).cancelled ≡ false → (x : Bool) → ltb clock (event_at w i).begins ≡ x → ((event_at w i).begins ≤ clock) ⊎ (u < (event_at w i).begins)
              go o true y = inr (clear_start i l o (ltb-true clock (event_at w i).begins y))
              go o false y = inl (ltb-false clock (event_at w i).begins y)

    -- A quiet second, which is counted for those that hold something.

    module _ (quietly : clock + 1 < t) (passing : clock < to) {new : List Entry} (c : SecondCounted s.holding now new) where
      rests : All (Idle clock 1) (keep (lasts clock) hs)
      rests = let one : clock + 1 - clock ≡ 1 = omega arith in rw one at (still (clock + 1) quietly (omega arith) (omega arith))

      remarks : (i : ℕ) → i < d.count → event_at new i ≡ remarked (event_at now i)
      remarks = quiet_counted s.holding now g.holders c

      entries_quiet : (slot_state d new).entries ≡ map remarked hs
      entries_quiet =
          us_are d new (omega (arith, g.ready.used.few, c.size))
          ∙ map_cong (event_at new) (λ i. remarked (event_at now i)) (places_to d.count) (λ i m. remarks i (place_below d.count i m))
          ∙ sym (map-map remarked (event_at now) (places_to d.count))
          ∙ ap (map remarked) (sym (us_are d now few))

      one_second : advance 1 (state_in ps hs clock) ≡ record { state = state_in ps (slot_state d new).entries (clock + 1); rows = [] }
      one_second =
          quiet_second ps hs clock g.state (omega (arith, g.last)) rests
          ∙ ap (λ us. record { state = state_in ps us (clock + 1); rows = [] }) (sym entries_quiet)

      same_end_quiet : (i : ℕ) → end_of (event_at new i) ≡ end_of (event_at now i)
      same_end_quiet i = ap end_of ((counted_holdings c).each i)

      -- nothing ends in it
      not_in_it : (i : ℕ) → i < d.count → clock < end_of (event_at now i) → clock + 1 < end_of (event_at now i)
      not_in_it i l h = rw (same_end i) (clear_end (clock + 1) quietly (omega arith) i l (rw (same_end i) at h))

      pub steady_quiet : Steady d new
      steady_quiet i l = rw (remarks i l) (carried_twice (event_at now i) (mask_at now i))

      pub tick : Going d w to agenda old new rows (record { holding = s.holding; counted = s.holding; rows = s.rows }) ended (clock + 1) k
      unfolding advance
      tick = record {
        ready = g.ready;
        planned = g.planned;
        last = g.last;
        size = g.size;
        from = omega (arith, g.from);
        order = omega arith;
        reached = reach_quiet g.planned g.ready.used.few g.last g.reached g.from e quietly;
        holdings = holdings_trans g.holdings (counted_holdings c);
        behind = λ j l.
            let none : has s.holding j ≡ false = not-true (has s.holding j) (λ e. omega (arith, ((g.holders j).0 e).0)) in
            c.each j ∙ rw none (g.behind j l);
        holders = counted_holders s.holding c g.holders;
        counted = λ i l h. let z : event_at new i ≡ counting (event_at now i) = c.each i ∙ (rw h) in rw z (counting_twice (event_at now i));
        before = λ i l.
            let b = g.before i l in
            let h = event_at now i in
            let same : event_at new i ≡ remarked h = remarks i l in
            rw same (record {
              short = b.short;
              early = λ m. b.early (omega arith);
              over = λ m. b.over (lt_of_not-le (λ z. omega (arith, not_in_it i l (omega arith))));
              stopped = b.stopped;
            });
        apart = λ i j n l m p q. g.apart i j n l m (rw (counted_mask c i) at p) (rw (counted_mask c j) at q);
        over = λ i. rw (same_end_quiet i) (
          λ h. let z = (g.over i).0 h in (z.0, omega (arith, z.1)),
          λ h. (g.over i).1 (h.0, by_contra (end_of (event_at now i)) clock (λ z. omega (arith, h.1, not_in_it i h.0 z))),
        );
        done = g.done;
        state = subst (λ o. Sound o.state) one_second (sound_advance 1 (state_in ps hs clock) g.state (omega (arith, g.last)));
        split =
            let rest = to - (clock + 1) in
            let left : to - clock ≡ 1 + rest = omega arith in
            g.split
            ∙ ap (λ n. onward (record { state = state_in ps hs clock; rows = g.done }) (advance n (state_in ps hs clock))) left
            ∙ ap (onward (record { state = state_in ps hs clock; rows = g.done })) (advance_add 1 rest (state_in ps hs clock) ∙ ap (λ m. onward m (advance rest m.state)) one_second);
        written = g.written;
      }

    -- A moment up to the reading.

    module _ (st : clock + 1 < t → clock < to → Steady d now) (soon : t ≤ to) {p q : Taken} (u : TakenTo agenda k (t * second_width + set_width) p) (v : TakenTo agenda p.next (t * second_width + second_width) q) where
      quiet : All (Idle clock (t - 1 - clock)) (keep (lasts clock) hs)
      quiet = still (t - 1) (omega (arith, next_later)) (omega arith) (omega (arith, next_later))

      whole : t ≡ suc (clock + (t - 1 - clock))
      whole = omega (arith, next_later)

      marked : 0 < t - 1 - clock → All (λ h. remarked h ≡ h) (keep (lasts clock) hs)
      marked h = steady_all (st (omega arith) (omega arith))

      in_time : clock + (t - 1 - clock) ≤ last_clock
      in_time = omega (arith, next_later, g.last)

      abbrev next : List Entry
      next = settled_at ps t hs

      split_next : passed (slot_state d w) to ≡ onward (record { state = state_in ps next t; rows = g.done ++ rows_at ps t hs }) (advance (to - t) (state_in ps next t))
      split_next =
          let rest = advance (to - t) (state_in ps next t) in
          g.split
          ∙ ap (onward (record { state = state_in ps hs clock; rows = g.done })) (moment_then ps hs clock (t - 1 - clock) g.state in_time quiet marked t to whole soon)
          ∙ ap (λ rs. record { state = rest.state; rows = rs }) (sym (append_assoc g.done (rows_at ps t hs) rest.rows))

      room : s.rows + length (rows_at ps t hs) ≤ most_rows
      room =
          let rest = advance (to - t) (state_in ps next t) in
          omega (
            arith,
            rw (view_of g.ready) at (few_rows (schedule_of d w) g.ready.good to),
            ap (λ m. length m.rows) split_next,
            length-append (g.done ++ rows_at ps t hs) rest.rows,
            length-append g.done (rows_at ps t hs),
            g.written.count,
          )

      -- who has ended before holds nothing
      before_it : (i : ℕ) → i < d.count → Before t (event_at now i)
      before_it i l =
          let b = g.before i l in
          record {
            short = b.short;
            early = λ h. b.early (omega (arith, next_later));
            over = λ h. b.over (rw (same_end i) (gone_by_lem (rw (same_end i) at h)));
            stopped = b.stopped;
          }
        where
          gone_by_lem : end_of (event_at w i) < t → end_of (event_at w i) < clock + 1
          gone_by_lem h = lt_of_not-le (λ m. omega (arith, clear_end (end_of (event_at w i)) h (omega arith) i l (omega arith)))

      abbrev due : Due
      due = record { ending = p.places; starting = q.places }

      pub ahead : Ahead d now t due s rows
      ahead = record {
        held = record {
          used = record { few = g.ready.used.few; size = g.holdings.size };
          numbered = λ i l. rw (held_event g.holdings i) (numbered g.ready i l);
          holders = g.holders;
        };
        distinct = λ i j l m h. distinct g.ready i j l m (ap id_of (sym (held_event g.holdings i)) ∙ h ∙ ap id_of (held_event g.holdings j));
        before = before_it;
        apart = g.apart;
        counted = g.counted;
        ending = λ i. rw (same_end i) (ending g.planned g.ready.used.few g.last g.reached g.from e soon u i);
        starting = λ i. rw (same_begin i, same_stopped i) (starting g.planned g.ready.used.few g.last g.reached g.from e soon u v i);
        size = g.written.size ∙ g.size;
        room = room;
      }

      module _ {new : List Entry} {after : List ℕ} {r : Standing} (x : Past d now new t s rows after r) where
        -- the slots have the entries of the next state
        entries_next : (slot_state d new).entries ≡ next
        entries_next =
            us_are d new (omega (arith, g.ready.used.few, x.holdings.size))
            ∙ map_cong (event_at new) (λ i. with_holding (event_at now i) (holding_at ps t hs (event_at now i))) (places_to d.count) (λ i m. x.settled i (place_below d.count i m))
            ∙ sym (map-map (λ h. with_holding h (holding_at ps t hs h)) (event_at now) (places_to d.count))
            ∙ ap (map (λ h. with_holding h (holding_at ps t hs h))) (sym (us_are d now few))

        -- a second like this one would set no mark
        pub steady_next : Steady d new
        unfolding holding_at
        steady_next i l = rw (x.settled i l) (carried_twice (event_at now i) (held_at ps t hs (event_at now i)))

        -- what has ended by now had ended, or ends
        over_next : SetOf d.count (λ i. end_of (event_at w i) ≤ t) (bit_or ended p.places)
        unfolding join
        over_next i = rw (has_join ended p.places i) (to_now (has ended i) refl, from_now)
          where
            ends_now : SetOf d.count (λ i. end_of (event_at w i) ≡ t) p.places
            ends_now = ending g.planned g.ready.used.few g.last g.reached g.from e soon u

            to_now : (b : Bool) → has ended i ≡ b → (b || has p.places i) ≡ true → (i < d.count) × (end_of (event_at w i) ≤ t)
            to_now true f y = let z = (g.over i).0 f in (z.0, omega (arith, same_end i, z.1, next_later))
            to_now false f y = let z = (ends_now i).0 y in (z.0, omega (arith, z.1))

            from_now : (i < d.count) × (end_of (event_at w i) ≤ t) → (has ended i || has p.places i) ≡ true
            from_now y = go (ltb clock (end_of (event_at w i))) refl
              where
                go : (b : Bool) → ltb clock (end_of (event_at w i)) ≡ b → (has ended i || has p.places i) ≡ true
                go true f = ap (λ z. has ended i || z) ((ends_now i).1 (y.0, omega (arith, y.1, no_end g.planned g.ready.used.few g.last g.reached g.from e i y.0 (ltb-true clock (end_of (event_at w i)) f) (omega (arith, y.1))))) ∙ or-true (has ended i)
                go false f = rw ((g.over i).1 (y.0, omega (arith, same_end i, ltb-false clock (end_of (event_at w i)) f)))

        -- who claims nothing has nothing
        before_next : (i : ℕ) → i < d.count → Before (t + 1) (event_at new i)
        unfolding holding_at
        before_next i l =
            let h = event_at now i in
            let begins : (event_at new i).begins ≡ h.begins = ap (λ o. o.begins) (x.holdings.each i) in
            let end : end_of (event_at new i) ≡ end_of h = ap end_of (x.holdings.each i) in
            let stopped : (event_at new i).cancelled ≡ h.cancelled = ap (λ o. o.cancelled) (x.holdings.each i) in
            let held : (event_at new i).held ≡ held_at ps t hs h = ap (λ o. o.held) (x.settled i l) in
            record {
              short = rw (begins, end) (g.before i l).short;
              early = λ a. held ∙ nothing_held ps t hs h (claim_early t h (omega (arith, begins)));
              over = λ a. held ∙ nothing_held ps t hs h (claim_ended t h (omega (arith, end)));
              stopped = λ a. held ∙ nothing_held ps t hs h (claim_cancelled t h (sym stopped ∙ a));
            }

        pub step : Going d w to agenda old new after r (bit_or ended p.places) t q.next
        step = record {
          ready = g.ready;
          planned = g.planned;
          last = g.last;
          size = g.size;
          from = omega (arith, next_later, g.from);
          order = soon;
          reached = reach_next g.planned g.ready.used.few g.last g.reached g.from e soon u v;
          holdings = holdings_trans g.holdings x.holdings;
          behind = λ j l. x.behind j l ∙ g.behind j l;
          holders = x.holders;
          counted = x.counted;
          before = before_next;
          apart = x.apart;
          over = λ i. rw (ap end_of (x.holdings.each i), same_end i) (over_next i);
          done = g.done ++ rows_at ps t hs;
          state = subst (λ us. Sound (state_in ps us t)) (sym entries_next) (sound_moment ps hs clock (t - 1 - clock) g.state in_time quiet marked t whole (omega (arith, g.last)));
          split = split_next ∙ ap (λ us. onward (record { state = state_in ps us t; rows = g.done ++ rows_at ps t hs }) (advance (to - t) (state_in ps us t))) (sym entries_next);
          written = rows_then g.written x.written;
        }

    -- No moment up to the reading any more.

    module _ (st : clock + 1 < t → clock < to → Steady d now) (h : to < t) where
      there : passed (slot_state d w) to ≡ record { state = state_in ps hs to; rows = g.done }
      there =
          g.split
          ∙ ap (onward (record { state = state_in ps hs clock; rows = g.done })) (quiet_to ps hs clock (to - clock) g.state (omega (arith, g.order, g.last)) (still to h (omega arith) g.order) (λ z. steady_all (st (omega (arith, h)) (omega arith))) to (omega (arith, g.order)))
          ∙ ap (λ rs. record { state = state_in ps hs to; rows = rs }) (append-nil g.done)

      pub stop : Passes d w to rows ended s.rows now
      stop = record {
        holdings = g.holdings;
        behind = g.behind;
        over = λ i. (
          λ f. let z = (g.over i).0 f in (z.0, omega (arith, z.1, g.order)),
          λ y. (g.over i).1 (y.0, by_contra (end_of (event_at now i)) clock (λ z. omega (arith, y.1, same_end i, clear_end to h (omega arith) i y.0 (omega (arith, same_end i, z))))),
        );
        state = ap (λ m. m.state) there;
        rows = omega (arith, g.written.count, ap (λ m. length m.rows) there);
        written = g.written.front ∙ ap (λ m. bytes m.rows) (sym there);
        size = g.written.size ∙ g.size;
      }

-- The first second is counted if it is quiet.

pub opened : {d : Head} {w : List Entry} {to : ℕ} {agenda old : List ℕ} (holding : ℕ) → Ready d w → Agenda d.clock to d.count w agenda → d.clock ≤ to → to ≤ last_clock → length old ≡ rows_size
    → Holders d.count w holding → (t : ℕ) → t ≡ get_or agenda 0 0 / second_width → {quiet : Bool} → quiet ≡ (ltb (d.clock + 1) t && ltb d.clock to)
    → {new : List Entry} {s : Standing} → Opened quiet holding w new s
    → (clock : ℕ) × Going d w to agenda old new old s 0 clock 0 × (clock + 1 < t → clock < to → Steady d new)
opened {d} {w} {to} {agenda} {old} holding r g h l size holders t e {quiet} f {new} {s} o = go quiet refl
  where
    first : Going d w to agenda old w old (record { holding = holding; counted = 0; rows = 0 }) 0 d.clock 0
    first = start r g h l size holders

    go : (b : Bool) → quiet ≡ b → (clock : ℕ) × Going d w to agenda old new old s 0 clock 0 × (clock + 1 < t → clock < to → Steady d new)
    go true q =
        let z = each_true (ltb (d.clock + 1) t) (ltb d.clock to) (sym f ∙ q) in
        let later = ltb-true (d.clock + 1) t z.0 in
        let passing = ltb-true d.clock to z.1 in
        let c = o.counts q in (
          d.clock + 1,
          subst (λ s. Going d w to agenda old new old s 0 (d.clock + 1) 0) (sym (o.standing ∙ (rw q))) (tick first t e later passing c),
          λ x y. steady_quiet first t e later passing c,
        )
    go false q = (
      d.clock,
      subst (λ s. Going d w to agenda old new old s 0 d.clock 0) (sym (o.standing ∙ (rw q))) (subst (λ n. Going d w to agenda old n old (record { holding = holding; counted = 0; rows = 0 }) 0 d.clock 0) (sym (o.stays q)) first),
      λ x y. both true refl (rw (lt-ltb (d.clock + 1) t x, lt-ltb d.clock to y) at (sym f ∙ q)),
    )

-- The whole call.

module _ (s : Schedule) (e : sound s ≡ true) {to : ℕ} {rows : List ℕ} {ended count : ℕ} {mid : List Entry} (p : Passes (head_of s) s.entries to rows ended count mid) where
  -- behind those in use there are still none
  pub unused_still : Unused s.count mid
  unused_still =
      let u = unused s e in
      record {
        used = record { few = u.used.few; size = p.holdings.size };
        none = λ j l. p.behind j l ∙ u.none j l;
      }

  fits : s.count ≤ length mid
  fits = omega (arith, unused_still.used.few, unused_still.used.size)

  -- who stays lasts
  lasting : map (event_at mid) (keep (λ i. not (has ended i)) (places_to s.count)) ≡ keep (lasts to) (take s.count mid)
  lasting =
      ap (map (event_at mid)) (keep_cong (λ i. not (has ended i)) (λ i. lasts to (event_at mid i)) (places_to s.count) (λ i m. go i (place_below s.count i m) (has ended i) refl))
      ∙ sym (keep_map (lasts to) (event_at mid) (places_to s.count)) ∙ ap (keep (lasts to)) (sym (us_are (head_of s) mid fits))
    where
      go : (i : ℕ) → i < s.count → (b : Bool) → has ended i ≡ b → not b ≡ lasts to (event_at mid i)
      go i l true e = sym (le-ltb to (end_of (event_at mid i)) ((p.over i).0 e).1)
      go i l false e = sym (lt-ltb to (end_of (event_at mid i)) (lt_of_not-le (λ m. both (has ended i) ((p.over i).1 (l, m)) e)))

  pub advanced : {k : ℕ} {next : List Entry} → Finished s.count ended mid next k → Advanced s to rows (record { clock = to; count = k; programs = s.programs; entries = next }) count
  advanced {k} {next} f = record {
    schedule = says (record { clock = to; count = k; programs = s.programs; entries = next }) f.unused
        ∙ ap (λ es. pad (record { clock = to; programs = s.programs; entries = es })) (f.lasting ∙ lasting) ∙ ap pad (sym p.state);
    rows = p.rows;
    written = p.written;
    size = p.size;
  }

  -- what it leaves is sound
  pub still_sound : {next : Schedule} → s.clock ≤ to → to ≤ last_clock → Advanced s to rows next count → sound next ≡ true
  still_sound l h v = ap sound v.schedule ∙ sound_pad (passed (view s) to).state (sound_advance (to - s.clock) (view s) (sound_view s e) (omega arith))

  -- nothing has ended
  pub none_ended : ended ≡ 0 → Finished s.count ended mid mid s.count
  none_ended z = record {
    unused = unused_still;
    lasting = us_are (head_of s) mid fits ∙ ap (map (event_at mid)) (sym (keep_all (λ i. not (has ended i)) (places_to s.count) (λ i m. rw (z, has_none))));
  }
