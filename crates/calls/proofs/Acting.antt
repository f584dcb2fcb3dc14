-- The number that a call gives on a schedule by value; and what a call in place gives.
use mathlib.Core.Path.{◌≡◌, sym, ap, ◌∙◌}
use mathlib.Core.Bool.{true, false}
use Prim.Native.Nat.{ℕ, ◌<◌, ◌≤◌}
use lib.Dec.{eqb}
use mathlib.Core.List.{[], map}
use mathlib.Core.Option.{none, some}
use native.Mathlib.Omega.{arith}
use borrow.Author.Tests.{eq-eqb}
use lib.ListN.{length, get_or, set, length-set}
use lib.Seq.{get_or-set_other}
use Rattle.rules.specs.declared.Schedule.{Schedule}
use Rattle.rules.specs.Records.{view, most_events, id_of, no_entry}
use Rattle.rules.specs.Sound.{sound}
use Rattle.rules.specs.Refusals.{first_of, find}
use Rattle.rules.specs.Calls.{refusal_number, Call, Outcome, nothing, code, with_entries, checks, refusal, lent_bytes, lent_list, call, deliver, entry, entry_id, does, accepted}
use Rattle.rules.specs.declared.Entry.{Entry}
use Rattle.rules.specs.declared.Event.{Event}
use Rattle.std.specs.Prelude.{Ok, Err}
use Rattle.rules.specs.declared.Refusal.{Refusal}
use Rattle.rules.specs.declared.Reply.TheVariants.{Code}
use Rattle.rules.proofs.FaceLaws.{some_number}
use Rattle.rules.proofs.ListLaws.{insert_length}
use Rattle.rules.proofs.SoundState.{sound_view}
use Rattle.rules.proofs.SoundKept.{sound_does, sound_call}
use Rattle.rules.proofs.CallLaws.{done as done_call}
use Rattle.calls.specs.Slots.{Unused}
use Rattle.calls.specs.Sets.{blank, event_at}
use Rattle.calls.specs.Answered.{told}
use Rattle.calls.specs.Found.{Bears, Free}
use Rattle.calls.proofs.Placing.{find_held, find_free, OfOne, put_over}
use Rattle.calls.proofs.Slots.{in_slots, slot_at, in_use, unused, says}

module _ (s : Schedule) (e : sound s ≡ true) where
  pub given : (c : Call) (n : ℕ) → eqb n 0 ≡ false → n ≡ first_of (checks (view s) c)
      → record { number = n; value = nothing; state = s; bytes = lent_bytes c; records = lent_list c } ≡ call s c
  unfolding call refusal
  given c n f q = rw (e, ← q, f)

-- a schedule that breaks a rule is refused with 2 and comes back as it came
pub broken : (s : Schedule) → sound s ≡ false → (c : Call) → record { number = 2; value = nothing; state = s; bytes = lent_bytes c; records = lent_list c } ≡ call s c
unfolding call refusal
broken s e c = rw e

-- the schedule with another event at a place
abbrev pub with_event : Schedule → ℕ → Entry → Schedule
with_event s at h = record { clock = s.clock; count = s.count; programs = s.programs; entries = set s.entries at h }

-- In place.

module _ (s : Schedule) (e : sound s ≡ true) where
  -- a refusal whose number applies is given, and nothing changes
  pub refuses : (c : Call) (why : Refusal) → lent_bytes c ≡ [] → lent_list c ≡ [] → refusal_number why ≡ first_of (checks (view s) c) → told (Err why) s ≡ call s c
  refuses c why b l q =
      let n = refusal_number why in
      (λ i. record { number = n; value = nothing; state = s; bytes = sym b i; records = sym l i }) ∙ given s e c n (some_number why) q

  -- what a call leaves is sound
  pub kept : (c : Call) {o : Outcome} → o ≡ call s c → sound o.state ≡ true
  kept c q = ap (λ (o : Outcome). sound o.state) q ∙ sound_call s e c

  -- an event that is taken in finds room, since what is left is sound
  pub room : (v : Event) → first_of (checks (view s) (deliver v)) ≡ 0 → find (id_of v) (view s).entries ≡ none → s.count < most_events
  unfolding does
  room v z f =
      let u = in_use s e in
      let left = (sound_does (view s) (sound_view s e) (deliver v) (eq-eqb _ 0 z)).room in
      omega (arith, rw f at left, insert_length entry_id (entry s.clock v) (view s).entries, in_slots s.entries s.count (omega (arith, u.few, u.size)))

  -- what is held under an id, by its place
  pub held : {i at : ℕ} → Bears (view s).entries i at → find i (view s).entries ≡ some (get_or (view s).entries at no_entry)
  held {i} {at} f = find_held i (view s).entries at (sound_view s e).ids f

  pub free : {i at : ℕ} → Free (view s).entries i at → find i (view s).entries ≡ none
  free {i} {at} f = find_free i (view s).entries at (sound_view s e).ids f

  pub inside : {i at : ℕ} → Bears (view s).entries i at → (at < s.count) × (s.count ≤ most_events)
  inside f =
      let u = in_use s e in
      (omega (arith, f.within, in_slots s.entries s.count (omega (arith, u.few, u.size))), u.few)

  -- the event held under an id is changed in its place, and the answer is a code
  pub changes : {change : ℕ → Entry → Entry} {done : Entry → Entry} → OfOne change done → {i at : ℕ} → Bears (view s).entries i at
      → (c : Call) (k : ℕ) → first_of (checks (view s) c) ≡ 0
      → does (view s) c ≡ record { state = with_entries (view s) (map (change i) (view s).entries); value = code k; bytes = []; records = [] }
      → told (Ok (Code k)) (with_event s at (done (event_at s.entries at))) ≡ call s c
  changes {change} {done} o {i} {at} f c k z q =
      let u = unused s e in
      let fits : s.count ≤ length s.entries = omega (arith, u.used.few, u.used.size) in
      let l = (inside f).0 in
      let x = done (event_at s.entries at) in
      let same = slot_at s.entries s.count fits at l in
      let over = rw same at (put_over s.entries s.count o fits at l (sound_view s e).ids) in
      let here : entry_id (event_at s.entries at) ≡ i = ap entry_id (sym same) ∙ f.same in
      let behind : Unused s.count (set s.entries at x) = record {
        used = record { few = u.used.few; size = length-set s.entries at x ∙ u.used.size };
        none = λ j h. get_or-set_other s.entries at j x blank (λ d. omega arith) ∙ u.none j h;
      } in
      ap (told (Ok (Code k))) (says (with_event s at x) behind)
      ∙ ap (λ es. accepted (record { state = with_entries (view s) es; value = code k; bytes = []; records = [] }))
      (over ∙ ap (λ j. map (change j) (view s).entries) here)
      ∙ ap accepted (sym q) ∙ sym (done_call s e c z)
