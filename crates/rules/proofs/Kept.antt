-- What every history keeps, and that each accepted call keeps it: its events ascend, and those of one id do not overlap.
use mathlib.Core.Path.{◌≡◌, refl, sym, ap, ap₂, ◌∙◌}
use mathlib.Core.Logic.{◌⊎◌, inl, inr, ⊎_elim}
use Prim.Native.Nat.{ℕ, ◌+◌, ◌<◌, ◌≤◌}
use mathlib.Core.Bool.{Bool, true, false, cond, ◌||◌, ◌&&◌}
use mathlib.Core.List.{List, [], ◌∷◌, map, map-map}
use mathlib.Core.Option.{Option, none, some}
use native.Mathlib.Omega.{arith}
use lib.Dec.{ltb, leb, eqb}
use lib.ListN.{set}
use lib.Seq.{get_or-set_other}
use borrow.Author.Tests.{ltb-true, ltb-false, lt-ltb, leb-false, le-leb, eqb-false}
use Rattle.rules.specs.declared.Event.{Event}
use Rattle.rules.specs.declared.Entry.{Entry}
use Rattle.rules.specs.declared.Program.{Program}
use Rattle.rules.specs.Lists.{keep, insert, In, All, Pairwise}
use Rattle.rules.specs.Records.{id_of, no_program, differ, program_at}
use Rattle.rules.specs.Period.{lift, drawn_start, effective_start, effective_end}
use Rattle.rules.specs.Sound.{malformed, out_of_range}
use Rattle.rules.specs.Refusals.{find, late}
use Rattle.rules.specs.Calls.{entry, entry_id, mark, decide}
use Rattle.rules.specs.History.{Chosen, cancelled_at, held_under, standing, chosen_at}
use Rattle.rules.specs.Schedules.{Timed, gone_by, out_by, as_entry, holding, seen, living, held_events}
use Rattle.rules.proofs.Tests.{both, either_false}
use Rattle.rules.proofs.ListLaws.{in_keep, keep_in, keep_map, keep_insert, map_cong, map_in, all_map, in_insert, insert_map, asc_insert, asc_map, asc_weaken}
use Rattle.rules.proofs.Local.{timed_id, cancel_timed, cancel_before, choose_timed, choose_before, holding_early, holding_deliver, holding_change, holding_program, RankedAlike}
use Rattle.rules.proofs.Second.{Past, PastChoice, Heard, out_standing}

abbrev pub ends : Timed → ℕ
ends x = effective_end x.event

-- by id; of one id, the one ends before the other begins
abbrev pub Before : Timed → Timed → Type 0
Before x y = (timed_id x < timed_id y) ⊎ ((timed_id x ≡ timed_id y) × (x.begins < y.begins) × (ends x ≤ y.begins))

abbrev pub InId : Timed → Timed → Type 0
InId x y = timed_id x ≤ timed_id y

before_id : (x y : Timed) → Before x y → InId x y
before_id x y (inl l) = omega arith
before_id x y (inr e) = omega arith

pub record Kept (ps : List Program) (ts : List Timed) (c : ℕ) : Type 0 where
  pub ascending : Pairwise Before ts
  pub proper : All (λ x. x.begins < ends x) ts
  pub past : All (Heard c) ts
  pub added : All (λ x. (program_at ps x.event.program).added ≡ true) ts

pub in_ids : (ts : List Timed) → Pairwise Before ts → Pairwise InId ts
in_ids ts h = asc_weaken Before InId before_id ts h

-- Delivery.

pub begins_from : (e : Event) (c : ℕ) → drawn_start e ≤ effective_start e c
unfolding effective_start
begins_from e c = omega arith

pub begins_later : (e : Event) (c : ℕ) → c < effective_start e c
unfolding effective_start
begins_later e c = omega arith

pub late_not : (e : Event) (c : ℕ) → late c e ≡ false → c + 1 < effective_end e
unfolding late
late_not e c h = leb-false (effective_end e) (c + 1) (either_false (leb (e.start + e.duration) c) (leb (effective_end e) (c + 1)) h).1

lasting : (e : Event) → malformed e ≡ false → drawn_start e < effective_end e
unfolding malformed effective_end
lasting e h = omega (arith, ltb-false (e.duration + lift e.duration_draw) (32768 + 1) (either_false (out_of_range e) (ltb (e.duration + lift e.duration_draw) (32768 + 1)) h).1)

pub begins_proper : (e : Event) (c : ℕ) → malformed e ≡ false → late c e ≡ false → effective_start e c < effective_end e
unfolding effective_start
begins_proper e c m l = omega (arith, lasting e m, late_not e c l)

pub find_none : (i : ℕ) (hs : List Entry) → find i hs ≡ none → All (λ h. entry_id h ≡ i → ⊥) hs
unfolding find
find_none i [] e h m = absurd m
find_none i (x ∷ xs) e h m = go (eqb (entry_id x) i) refl e (λ f n. find_none i xs f h n) m
  where
    go : (b : Bool) → eqb (entry_id x) i ≡ b → cond b (some x) (find i xs) ≡ none → (find i xs ≡ none → In h xs → entry_id h ≡ i → ⊥) → In h (x ∷ xs) → entry_id h ≡ i → ⊥
    go true d f ih m = absurd (let z : ◌≡◌ {A = ℕ} 0 1 = cc in omega arith)
    go false d f ih (inl q) = λ g. eqb-false (entry_id x) i d (sym (ap entry_id q) ∙ g)
    go false d f ih (inr n) = ih f n

-- an event of an id under which none is held has ended
pub over_before : (ps : List Program) (ts : List Timed) (c : ℕ) (e : Event) → find (id_of e) (held_events ps ts c) ≡ none
    → (x : Timed) → In x ts → timed_id x ≡ id_of e → ends x ≤ c
unfolding held_events
over_before ps ts c e free x m q = go (living c x) refl
  where
    go : (b : Bool) → living c x ≡ b → ends x ≤ c
    go true d =
        absurd (find_none (id_of e) (held_events ps ts c) free (seen ps ts c x) (map_in (seen ps ts c) x (keep (living c) ts) (keep_in (living c) x ts m d)) q)
    go false d = ltb-false c (ends x) d

module _ (ps : List Program) (ts : List Timed) (c : ℕ) (kept : Kept ps ts c) (e : Event)
    (well : malformed e ≡ false) (soon : late c e ≡ false) (free : find (id_of e) (held_events ps ts c) ≡ none)
    (known : (program_at ps e.program).added ≡ true) where
  abbrev pub new : Timed
  new = record { event = e; begins = effective_start e c; cancelled = none; choices = [] }

  abbrev pub more : List Timed
  more = insert timed_id new ts

  pub kept_deliver : Kept ps more c
  kept_deliver = record {
    ascending = asc_insert timed_id new Before ts kept.ascending behind (λ x m l. inl l) (in_ids ts kept.ascending);
    proper = λ x m. all (λ x. x.begins < ends x) (begins_proper e c well soon) kept.proper x m;
    past = λ x m. all (Heard c) (record { cancelled = tt; chosen = tt }) kept.past x m;
    added = λ x m. all (λ x. (program_at ps x.event.program).added ≡ true) known kept.added x m;
  }
    where
      all : (P : Timed → Type 0) → P new → All P ts → All P more
      all P p h x m = ⊎_elim (λ q. rw q p) (λ n. h x n) (in_insert timed_id new x ts m)

      behind : All (λ x. timed_id x ≤ id_of e → Before x new) ts
      behind x m l = go (ltb (timed_id x) (id_of e)) refl
        where
          go : (b : Bool) → ltb (timed_id x) (id_of e) ≡ b → Before x new
          go true d = inl (ltb-true (timed_id x) (id_of e) d)
          go false d =
              let q : timed_id x ≡ id_of e = omega (arith, ltb-false (timed_id x) (id_of e) d) in
              inr (q, omega (arith, over_before ps ts c e free x m q, begins_later e c, kept.proper x m), omega (arith, over_before ps ts c e free x m q, begins_later e c))

  seen_new : seen ps more c new ≡ entry c e
  seen_new = rw (holding_early ps more c new (begins_later e c))

  pub entries_deliver : held_events ps more c ≡ insert entry_id (entry c e) (held_events ps ts c)
  unfolding held_events
  entries_deliver =
      ap (map (seen ps more c)) (keep_insert timed_id new (living c) ts (lt-ltb c (effective_end e) (omega (arith, late_not e c soon))) (in_ids ts kept.ascending))
      ∙ insert_map timed_id entry_id (seen ps more c) (λ x. refl) new (keep (living c) ts)
      ∙ ap₂ (insert entry_id) seen_new (map_cong (seen ps more c) (seen ps ts c) (keep (living c) ts) (λ x m. ap (as_entry c x) (holding_deliver ps new c (begins_later e c) ts c (omega arith) x)))

-- Cancellation.

past_cancelled : (b : Bool) (c : ℕ) (o : Option ℕ) → Past c o → Past c (cancelled_at b c o)
past_cancelled false c o p = p
past_cancelled true c none p = omega arith
past_cancelled true c (some k) p = p

gone_now : (c : ℕ) (o : Option ℕ) → Past c o → gone_by c (cancelled_at true c o) ≡ true
gone_now c none p = le-leb c c (omega arith)
gone_now c (some k) p = le-leb k c p

module _ (ps : List Program) (ts : List Timed) (c : ℕ) (kept : Kept ps ts c) (i : ℕ) where
  abbrev pub less : List Timed
  less = map (cancel_timed i c) ts

  pub kept_cancel : Kept ps less c
  kept_cancel = record {
    ascending = asc_map Before Before (cancel_timed i c) (λ x y b. b) ts kept.ascending;
    proper = all_map (λ x. x.begins < ends x) (cancel_timed i c) ts kept.proper;
    past = all_map (Heard c) (cancel_timed i c) ts (λ x m. record {
      cancelled = past_cancelled (held_under i c x.event) c x.cancelled (kept.past x m).cancelled;
      chosen = (kept.past x m).chosen;
    });
    added = all_map (λ x. (program_at ps x.event.program).added ≡ true) (cancel_timed i c) ts kept.added;
  }

  seen_mark : (x : Timed) → In x ts → living c x ≡ true → seen ps less c (cancel_timed i c x) ≡ mark i (seen ps ts c x)
  seen_mark x m l = ap (as_entry c (cancel_timed i c x)) (holding_change ps (cancel_timed i c) c (cancel_before i c) ts c (omega arith) x) ∙ go (eqb (timed_id x) i) (living c x) l
    where
      go : (b d : Bool) → d ≡ true
          → as_entry c (record { event = x.event; begins = x.begins; cancelled = cancelled_at (b && d) c x.cancelled; choices = x.choices }) (holding ps ts c x)
          ≡ record { event = x.event; begins = x.begins; held = cond b 0 (seen ps ts c x).held; cancelled = b || gone_by c x.cancelled; choice = (seen ps ts c x).choice }
      go b false e = both false e refl
      go true true e =
          ap (λ g. record { event = x.event; begins = x.begins; held = cond g 0 (holding ps ts c x).held; cancelled = g; choice = (seen ps ts c x).choice })
          (gone_now c x.cancelled (kept.past x m).cancelled)
      go false true e = refl

  pub entries_cancel : held_events ps less c ≡ map (mark i) (held_events ps ts c)
  unfolding held_events
  entries_cancel =
      ap (map (seen ps less c)) (keep_map (living c) (cancel_timed i c) ts)
      ∙ map-map (seen ps less c) (cancel_timed i c) (keep (living c) ts)
      ∙ map_cong (λ x. seen ps less c (cancel_timed i c x)) (λ x. mark i (seen ps ts c x)) (keep (living c) ts)
      (λ x m. let r = in_keep (living c) x ts m in seen_mark x r.0 r.1)
      ∙ sym (map-map (mark i) (seen ps ts c) (keep (living c) ts))

-- A choice.

past_chosen : (b : Bool) (c : ℕ) (out : Bool) (cs : List Chosen) → PastChoice c cs → PastChoice c (chosen_at b c out cs)
past_chosen b c out cs p = go (b && differ (standing cs) out)
  where
    go : (d : Bool) → PastChoice c (cond d (record { clock = c; out = out } ∷ cs) cs)
    go true = omega arith
    go false = p

differ_not : (a b : Bool) → differ a b ≡ false → a ≡ b
differ_not true true e = refl
differ_not true false e = both true refl e
differ_not false b e = sym e

out_now_lem : (c : ℕ) (out : Bool) (cs : List Chosen) → PastChoice c cs → out_by c (chosen_at true c out cs) ≡ out
out_now_lem c out cs p = go (differ (standing cs) out) refl
  where
    go : (d : Bool) → differ (standing cs) out ≡ d → out_by c (cond d (record { clock = c; out = out } ∷ cs) cs) ≡ out
    go true e = rw (le-leb c c (omega arith))
    go false e = out_standing c cs p ∙ differ_not (standing cs) out e

module _ (ps : List Program) (ts : List Timed) (c : ℕ) (kept : Kept ps ts c) (i : ℕ) (out : Bool) where
  abbrev pub decided : List Timed
  decided = map (choose_timed i out c) ts

  pub kept_choose : Kept ps decided c
  kept_choose = record {
    ascending = asc_map Before Before (choose_timed i out c) (λ x y b. b) ts kept.ascending;
    proper = all_map (λ x. x.begins < ends x) (choose_timed i out c) ts kept.proper;
    past = all_map (Heard c) (choose_timed i out c) ts (λ x m. record {
      cancelled = (kept.past x m).cancelled;
      chosen = past_chosen (held_under i c x.event) c out x.choices (kept.past x m).chosen;
    });
    added = all_map (λ x. (program_at ps x.event.program).added ≡ true) (choose_timed i out c) ts kept.added;
  }

  seen_decide : (x : Timed) → In x ts → living c x ≡ true → seen ps decided c (choose_timed i out c x) ≡ decide i out (seen ps ts c x)
  seen_decide x m l = rw (holding_change ps (choose_timed i out c) c (choose_before i out c) ts c (omega arith) x, l) (go (eqb (timed_id x) i))
    where
      go : (b : Bool) → as_entry c (record { event = x.event; begins = x.begins; cancelled = x.cancelled; choices = chosen_at (b && true) c out x.choices }) (holding ps ts c x)
          ≡ record {
            event = x.event;
            begins = x.begins;
            held = (seen ps ts c x).held;
            cancelled = gone_by c x.cancelled;
            choice = record { out = cond b out (out_by c x.choices); was_in = (holding ps ts c x).was_in; was_out = (holding ps ts c x).was_out };
          }
      go true = rw (out_now_lem c out x.choices (kept.past x m).chosen)
      go false = refl

  pub entries_choose : held_events ps decided c ≡ map (decide i out) (held_events ps ts c)
  unfolding held_events
  entries_choose =
      ap (map (seen ps decided c)) (keep_map (living c) (choose_timed i out c) ts)
      ∙ map-map (seen ps decided c) (choose_timed i out c) (keep (living c) ts)
      ∙ map_cong (λ x. seen ps decided c (choose_timed i out c x)) (λ x. decide i out (seen ps ts c x)) (keep (living c) ts)
      (λ x m. let r = in_keep (living c) x ts m in seen_decide x r.0 r.1)
      ∙ sym (map-map (decide i out) (seen ps ts c) (keep (living c) ts))

-- A program.

module _ (ps : List Program) (ts : List Timed) (c : ℕ) (kept : Kept ps ts c) (n : ℕ) (p : Program)
    (unused : (program_at ps n).added ≡ false) where
  unchanged : (x : Timed) → In x ts → program_at (set ps n p) x.event.program ≡ program_at ps x.event.program
  unchanged x m = get_or-set_other ps n x.event.program p no_program
      (λ q. both (program_at ps n).added (rw q at (kept.added x m)) unused)

  pub ranked : All (RankedAlike ps (set ps n p)) ts
  ranked x m = ap (λ q. q.primacy) (unchanged x m)

  pub kept_program : Kept (set ps n p) ts c
  kept_program = record {
    ascending = kept.ascending;
    proper = kept.proper;
    past = kept.past;
    added = λ x m. rw (unchanged x m) (kept.added x m);
  }

  pub entries_program : held_events (set ps n p) ts c ≡ held_events ps ts c
  unfolding held_events
  entries_program = map_cong (seen (set ps n p) ts c) (seen ps ts c) (keep (living c) ts)
      (λ x m. ap (as_entry c x) (holding_program ps (set ps n p) ts ranked c x (in_keep (living c) x ts m).0))
