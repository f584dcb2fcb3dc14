-- Theorem A: every list of calls gives what the schedule of its history gives. By induction along the list: each call keeps the state that of the history.
use mathlib.Core.Path.{◌≡◌, refl, sym, ap, ◌∙◌, subst}
use mathlib.Core.Logic.{inl, inr}
use Prim.Native.Nat.{ℕ, ◌+◌, ◌-◌, ◌*◌, ◌≤◌}
use mathlib.Core.Bool.{Bool, true, false, cond, not, ◌||◌, or-true}
use mathlib.Core.List.{List, [], ◌∷◌, ◌++◌, map, map-map, append_assoc, append-nil}
use mathlib.Core.Option.{Option, none, some}
use native.Mathlib.Omega.{arith}
use lib.Dec.{ltb, eqb}
use lib.ListN.{set, length, take}
use borrow.Author.Tests.{ltb-false, not-false}
use Rattle.rules.specs.declared.Event.{Event}
use Rattle.rules.specs.declared.Entry.{Entry}
use Rattle.rules.specs.declared.Program.{Program}
use Rattle.rules.specs.declared.Schedule.{Schedule}
use Rattle.rules.specs.Lists.{keep, over, In}
use Rattle.rules.specs.Records.{State, id_of, last_clock, program_at, fresh, pad}
use Rattle.rules.specs.Period.{drawn_start, effective_end}
use Rattle.rules.specs.Moments.{passed}
use Rattle.rules.specs.Bytes.{bytes, row_size}
use Rattle.rules.specs.Sound.{malformed, same_event}
use Rattle.rules.specs.Refusals.{first_of, find, late, program_checks, event_checks, clock_checks}
use Rattle.rules.specs.Calls.{program, event, cancellation, decision, question, Call, bare, set_clock, list, program_of, receive, with_entries, mark, decide, does, checks, accepts, accepted, refused, Outcome, call, run, written, joined}
use Rattle.rules.specs.History.{Added, Brought, History, no_history, brought_id, known, bring, cancel_brought, choose_brought, note, accepted_calls, history_from, history_of}
use Rattle.rules.specs.Schedules.{Timed, timed, living, seen, rows_to, held_events, programs_of, times_of, state_at, state_of, rows_of}
use Rattle.rules.proofs.Tests.{both, either_false, first_not}
use Rattle.rules.proofs.ListLaws.{in_keep, in_map, map_in, insert_map}
use Rattle.rules.proofs.Local.{timed_id, cancel_timed, cancel_before, choose_timed, choose_before, rows_deliver, rows_change, rows_program}
use Rattle.rules.proofs.Second.{heard_on, advance_state, advance_rows}
use Rattle.rules.proofs.Kept.{Kept, ends, begins_later, late_not, over_before, new, kept_deliver, entries_deliver, kept_cancel, entries_cancel, kept_choose, entries_choose, kept_program, ranked, entries_program}
use Rattle.rules.proofs.RowBytes.{bytes_append, bytes_read}
use Rattle.rules.proofs.SoundState.{Sound, same_fields}
use Rattle.rules.proofs.SoundKept.{sound_does, sound_fresh, refusal_pad, call_pad}

-- Records that were brought before.

known_in : (e : Event) (bs : List Brought) → known e bs ≡ true → (b : Brought) × In b bs × (same_event b.event e ≡ true)
known_in e [] k = both false k refl
known_in e (b ∷ bs) k = go (same_event b.event e) refl k (known_in e bs)
  where
    go : (x : Bool) → same_event b.event e ≡ x → (x || known e bs) ≡ true → (known e bs ≡ true → (b : Brought) × In b bs × (same_event b.event e ≡ true))
        → (c : Brought) × In c (b ∷ bs) × (same_event c.event e ≡ true)
    go true p k ih = (b, inl refl, p)
    go false p k ih = let r = ih k in (r.0, inr r.1, r.2)

in_known : (e : Event) (bs : List Brought) (b : Brought) → In b bs → same_event b.event e ≡ true → known e bs ≡ true
in_known e [] b m d = elim m [ ]
in_known e (x ∷ bs) b (inl q) d = rw (sym (ap (λ (b : Brought). same_event b.event e) q) ∙ d)
in_known e (x ∷ bs) b (inr m) d = rw (in_known e bs b m d, or-true)

-- the same record ends at the same moment
same_end : (a b : Event) → same_event a b ≡ true → effective_end a ≡ effective_end b
unfolding effective_end drawn_start
same_end a b e = ap effective_end (same_fields a b e).1

-- each program has a number of its own, at most 7
abbrev pub OnceEach : List Added → Type 0
OnceEach [] = Unit {0}
OnceEach (a ∷ rest) = (a.number ≤ 7) × ((program_at (programs_of rest) a.number).added ≡ false) × OnceEach rest

pub record Inv (H : History) : Type 0 where
  pub kept : Kept (programs_of H.programs) (times_of H) H.last
  pub numbered : OnceEach H.programs

-- from a history to the next: the state that the call leaves, and the bytes of its rows
pub record Next (H : History) (s : State) (w : List ℕ) (K : History) : Type 0 where
  pub state : s ≡ state_of K
  pub rows : bytes (rows_of H) ++ w ≡ bytes (rows_of K)
  pub inv : Inv K

stay : (H : History) → Inv H → Next H (state_of H) [] H
stay H v = record { state = refl; rows = append-nil (bytes (rows_of H)); inv = v }

module _ (H : History) (v : Inv H) where
  abbrev ps : List Program
  ps = programs_of H.programs

  abbrev ts : List Timed
  ts = times_of H

  abbrev c : ℕ
  c = H.last

  next_program : (n p d : ℕ) → eqb (first_of (program_checks (state_of H) n p)) 0 ≡ true
      → Next H (record { clock = c; programs = set ps n (program_of p d); entries = held_events ps ts c }) [] (record { programs = record { number = n; primacy = p; defaults = d } ∷ H.programs; brought = H.brought; last = c })
  unfolding program_checks
  next_program n p d ok =
      let r = first_not 3 (ltb 7 n) _ refl ok in
      let q = first_not 4 (program_at ps n).added _ refl r.1 in
      record {
        state = ap (λ hs. record { clock = c; programs = set ps n (program_of p d); entries = hs }) (sym (entries_program ps ts c v.kept n (program_of p d) q.0));
        rows = append-nil (bytes (rows_of H)) ∙ ap bytes (sym (rows_program ps (set ps n (program_of p d)) ts (ranked ps ts c v.kept n (program_of p d) q.0) c));
        inv = record { kept = kept_program ps ts c v.kept n (program_of p d) q.0; numbered = (ltb-false 7 n r.0, q.0, v.numbered) };
      }

  -- what is found under an id was brought
  found_brought : (e : Event) (h : Entry) (hs : List Entry) → find (id_of e) hs ≡ some h → In h hs
  unfolding find
  found_brought e h [] f = absurd (let z : ◌≡◌ {A = ℕ} 0 1 = cc in omega arith)
  found_brought e h (x ∷ xs) f = go (eqb (id_of x.event) (id_of e)) f (found_brought e h xs)
    where
      go : (b : Bool) → cond b (some x) (find (id_of e) xs) ≡ some h → (find (id_of e) xs ≡ some h → In h xs) → In h (x ∷ xs)
      go true q ih = inl (cc)
      go false q ih = inr (ih q)

  again_known : (e : Event) (h : Entry) → In h (held_events ps ts c) → same_event h.event e ≡ true → known e H.brought ≡ true
  unfolding held_events
  again_known e h m d =
      let r = in_map (seen ps ts c) h (keep (living c) ts) m in
      let b = in_map timed r.0 H.brought (in_keep (living c) r.0 ts r.1).0 in
      let e' : h.event ≡ b.0.event = ap (λ x. x.event) r.2 ∙ ap (λ x. x.event) b.2 in
      in_known e H.brought b.0 b.1 (sym (ap (λ x. same_event x e) e') ∙ d)

  -- a record that is not held and not late was never brought
  new_unknown : (e : Event) → find (id_of e) (held_events ps ts c) ≡ none → late c e ≡ false → known e H.brought ≡ false
  new_unknown e f l = go (known e H.brought) refl
    where
      go : (x : Bool) → known e H.brought ≡ x → x ≡ false
      go false k = refl
      go true k =
          let b = known_in e H.brought k in
          let over : ends (timed b.0) ≤ c = over_before ps ts c e f (timed b.0) (map_in timed b.0 H.brought b.1) (same_fields b.0.event e b.2).0 in
          absurd (omega (arith, late_not e c l, over, same_end b.0.event e b.2))

  next_deliver : (e : Event) (o : Option Entry) → find (id_of e) (held_events ps ts c) ≡ o → eqb (first_of (event_checks (state_of H) e o)) 0 ≡ true
      → Next H (receive (state_of H) e o) [] (record { programs = H.programs; brought = bring e c H.brought; last = c })
  unfolding event_checks
  next_deliver e (some h) f ok =
      let r3 = first_not 3 (ltb 7 e.program) _ refl ok in
      let r6 = first_not 6 (not (program_at ps e.program).added) _ refl r3.1 in
      let r7 = first_not 7 (malformed e) _ refl r6.1 in
      let r8 = first_not 8 (not (same_event h.event e)) _ refl r7.1 in
      rw (again_known e h (found_brought e h (held_events ps ts c) f) (not-false (same_event h.event e) r8.0)) (stay H v)
  next_deliver e none f ok =
      let r3 = first_not 3 (ltb 7 e.program) _ refl ok in
      let r6 = first_not 6 (not (program_at ps e.program).added) _ refl r3.1 in
      let r7 = first_not 7 (malformed e) _ refl r6.1 in
      let r9 = first_not 9 (late c e) _ refl r7.1 in
      let added = not-false (program_at ps e.program).added r6.0 in
      let times = insert_map brought_id timed_id timed (λ x. refl) (record { event = e; receipt = c; cancelled = none; choices = [] }) H.brought in
      rw (new_unknown e f r9.0)
      (record {
        state = ap (λ hs. record { clock = c; programs = ps; entries = hs })
            (sym (entries_deliver ps ts c v.kept e r7.0 r9.0 f added)) ∙ ap (λ l. state_at ps l c) (sym times);
        rows = append-nil (bytes (rows_of H))
            ∙ ap bytes (sym (rows_deliver ps (new ps ts c v.kept e r7.0 r9.0 f added) c (begins_later e c) ts c (omega arith)) ∙ ap (λ l. rows_to ps l c) (sym times));
        inv = record { kept = rw times (kept_deliver ps ts c v.kept e r7.0 r9.0 f added); numbered = v.numbered };
      })

  next_cancel : (i : ℕ) → Next H (with_entries (state_of H) (map (mark i) (held_events ps ts c))) [] (record { programs = H.programs; brought = map (cancel_brought i c) H.brought; last = c })
  next_cancel i =
      let times = map-map timed (cancel_brought i c) H.brought ∙ sym (map-map (cancel_timed i c) timed H.brought) in
      record {
        state = ap (λ hs. record { clock = c; programs = ps; entries = hs }) (sym (entries_cancel ps ts c v.kept i)) ∙ ap (λ l. state_at ps l c) (sym times);
        rows = append-nil (bytes (rows_of H)) ∙ ap bytes (sym (rows_change ps (cancel_timed i c) c (cancel_before i c) ts c (omega arith)) ∙ ap (λ l. rows_to ps l c) (sym times));
        inv = record { kept = rw times (kept_cancel ps ts c v.kept i); numbered = v.numbered };
      }

  next_choose : (i : ℕ) (out : Bool) → Next H (with_entries (state_of H) (map (decide i out) (held_events ps ts c))) [] (record { programs = H.programs; brought = map (choose_brought i out c) H.brought; last = c })
  next_choose i out =
      let times = map-map timed (choose_brought i out c) H.brought ∙ sym (map-map (choose_timed i out c) timed H.brought) in
      record {
        state = ap (λ hs. record { clock = c; programs = ps; entries = hs }) (sym (entries_choose ps ts c v.kept i out)) ∙ ap (λ l. state_at ps l c) (sym times);
        rows = append-nil (bytes (rows_of H)) ∙ ap bytes (sym (rows_change ps (choose_timed i out c) c (choose_before i out c) ts c (omega arith)) ∙ ap (λ l. rows_to ps l c) (sym times));
        inv = record { kept = rw times (kept_choose ps ts c v.kept i out); numbered = v.numbered };
      }

  next_clock : (t : ℕ) (b : List ℕ) → c ≤ t
      → Next H (passed (state_of H) t).state (take (row_size * length (passed (state_of H) t).rows) (over (bytes (passed (state_of H) t).rows) b)) (record { programs = H.programs; brought = H.brought; last = t })
  next_clock t b l =
      let there : c + (t - c) ≡ t = omega arith in
      record {
        state = advance_state ps ts (t - c) c v.kept.past ∙ ap (state_at ps ts) there;
        rows = ap (λ w. bytes (rows_of H) ++ w) (bytes_read (passed (state_of H) t).rows b)
            ∙ sym (bytes_append (rows_of H) (passed (state_of H) t).rows)
            ∙ ap bytes (sym (advance_rows ps ts (t - c) c v.kept.past) ∙ ap (rows_to ps ts) there);
        inv = record {
          kept = record {
            ascending = v.kept.ascending;
            proper = v.kept.proper;
            past = λ x m. heard_on c t l x (v.kept.past x m);
            added = v.kept.added;
          };
          numbered = v.numbered;
        };
      }

  reached : (t rows room : ℕ) → eqb (first_of (clock_checks c t rows room)) 0 ≡ true → c ≤ t
  unfolding clock_checks
  reached t rows room ok = ltb-false t c (either_false (ltb t c) (ltb last_clock t) (first_not 12 (ltb t c || ltb last_clock t) _ refl ok).0).0

  next_accepted : (a : Call) → eqb (first_of (checks (state_of H) a)) 0 ≡ true → Next H (does (state_of H) a).state (written a (accepted (does (state_of H) a))) (note H a)
  unfolding checks does note
  next_accepted (bare (program n p d)) ok = next_program n p d ok
  next_accepted (bare (event e)) ok = next_deliver e (find (id_of e) (held_events ps ts c)) refl ok
  next_accepted (bare (cancellation i)) ok = next_cancel i
  next_accepted (bare (decision i out)) ok = next_choose i out
  next_accepted (bare (question k)) ok = stay H v
  next_accepted (set_clock t b) ok = next_clock t b (reached t (length (passed (state_of H) t).rows) (length b) ok)
  next_accepted (list r) ok = stay H v

-- a refused call wrote nothing
written_refused : (s : Schedule) (a : Call) → written a (refused s a) ≡ []
written_refused s (bare k) = refl
written_refused s (set_clock t b) = refl
written_refused s (list r) = refl

-- from a history to the next, of schedules by value
pub record Leads (H : History) (s : Schedule) (w : List ℕ) (K : History) : Type 0 where
  pub state : s ≡ pad (state_of K)
  pub rows : bytes (rows_of H) ++ w ≡ bytes (rows_of K)
  pub inv : Inv K
  pub sound : Sound (state_of K)

module _ (H : History) (v : Inv H) (u : Sound (state_of H)) where
  abbrev s : Schedule
  s = pad (state_of H)

  step : (a : Call) → Leads H (call s a).state (written a (call s a)) (cond (accepts s a) (note H a) H)
  step a =
      subst (λ o. Leads H o.state (written a o) (cond (accepts s a) (note H a) H)) (sym (call_pad (state_of H) u a))
      (subst (λ n. Leads H (out (eqb (first_of (checks (state_of H) a)) 0)).state (written a (out (eqb (first_of (checks (state_of H) a)) 0))) (cond (eqb n 0) (note H a) H))
      (sym (refusal_pad (state_of H) u a)) (go (eqb (first_of (checks (state_of H) a)) 0) refl))
    where
      out : Bool → Outcome
      out b = cond b (accepted (does (state_of H) a)) (refused s a)

      go : (b : Bool) → eqb (first_of (checks (state_of H) a)) 0 ≡ b → Leads H (out b).state (written a (out b)) (cond b (note H a) H)
      go true ok =
          let n = next_accepted H v a ok in
          record { state = ap pad n.state; rows = n.rows; inv = n.inv; sound = subst Sound n.state (sound_does (state_of H) u a ok) }
      go false _ =
          record { state = refl; rows = ap (λ w. bytes (rows_of H) ++ w) (written_refused s a) ∙ append-nil (bytes (rows_of H)); inv = v; sound = u }

-- along a list
history_cond : (b : Bool) (H : History) (a : Call) (rest : List Call) → history_from H (cond b (a ∷ rest) rest) ≡ history_from (cond b (note H a) H) rest
unfolding history_from
history_cond true H a rest = refl
history_cond false H a rest = refl

pub all_steps : (H : History) → Inv H → Sound (state_of H) → (s : Schedule) → s ≡ pad (state_of H) → (xs : List Call)
    → Leads H (run s xs) (joined s xs) (history_from H (accepted_calls s xs))
unfolding run joined accepted_calls history_from
all_steps H v u s e [] = record { state = e; rows = append-nil (bytes (rows_of H)); inv = v; sound = u }
all_steps H v u s e (a ∷ xs) =
    let n = step H v u a in
    let s' = pad (state_of H) in
    let t = (call s' a).state in
    let m = all_steps (cond (accepts s' a) (note H a) H) n.inv n.sound t n.state xs in
    subst (λ s. Leads H (run s (a ∷ xs)) (joined s (a ∷ xs)) (history_from H (accepted_calls s (a ∷ xs)))) (sym e)
    (subst (λ K. Leads H (run t xs) (written a (call s' a) ++ joined t xs) K) (sym (history_cond (accepts s' a) H a (accepted_calls t xs)))
    (record {
      state = m.state;
      rows = sym (append_assoc (bytes (rows_of H)) (written a (call s' a)) (joined t xs)) ∙ ap (λ w. w ++ joined t xs) n.rows ∙ m.rows;
      inv = m.inv;
      sound = m.sound;
    }))

pub start : Inv no_history
start = record {
  kept = record { ascending = tt; proper = λ x m. absurd m; past = λ x m. absurd m; added = λ x m. absurd m };
  numbered = tt;
}

pub scheduled : (cs : List Call) → Leads no_history (run (pad fresh) cs) (joined (pad fresh) cs) (history_of cs)
unfolding held_events
scheduled cs = all_steps no_history start sound_fresh (pad fresh) refl cs
