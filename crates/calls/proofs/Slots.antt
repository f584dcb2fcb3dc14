-- What stands at a place of a list; what stands in the slots; and when a schedule is what it says.
use mathlib.Core.Path.{◌≡◌, refl, sym, ap, ◌∙◌, subst}
use mathlib.Core.Logic.{inl, inr}
use Prim.Native.Nat.{ℕ, zero, suc, ◌<◌, ◌≤◌, ◌-◌}
use mathlib.Core.List.{List, [], ◌∷◌, map, ◌++◌}
use native.Mathlib.Omega.{arith}
use lib.ListN.{length, get_or, take, get_or-append, replicate, length-append, length-replicate, get_or-replicate, get_or-eq_default}
use lib.Seq.{get_or-take, length-take-le, get_or-append_right, ext_get_or}
use lib.Dec.{ltb}
use borrow.Author.Tests.{ltb-true, ltb-false}
use borrow.Table.Steps.{cases}
use mathlib.Core.Bool.{true}
use Rattle.rules.specs.declared.Id.{Id}
use Rattle.rules.specs.declared.Entry.{Entry}
use Rattle.rules.specs.declared.Schedule.{Schedule}
use Rattle.rules.specs.Sound.{sound}
use Rattle.rules.specs.Lists.{In, Pairwise}
use Rattle.rules.specs.Records.{no_entry, view, pad, most_events}
use Rattle.rules.proofs.IdLaws.{zero_halves}
use Rattle.rules.proofs.SoundState.{Sound, view_pad, sound_view, rules, pad_view}
use Rattle.calls.specs.declared.held.Head.{Head}
use Rattle.calls.specs.Slots.{head_of, slot_state, schedule_of, Ready, InUse, Unused}
use Rattle.calls.specs.Sets.{blank, event_at}

-- what stands at a place is in the list
pub at_in : {A : Type 0} (d : A) (xs : List A) (k : ℕ) → k < length xs → In (get_or xs k d) xs
at_in d [] k l = absurd (omega arith)
at_in d (x ∷ xs) zero l = inl refl
at_in d (x ∷ xs) (suc k) l = inr (at_in d xs k (omega arith))

-- and what is in it stands at a place
pub in_at : {A : Type 0} (d : A) (xs : List A) (x : A) → In x xs → (k : ℕ) × (k < length xs) × (get_or xs k d ≡ x)
in_at {A = A} d [] x m = elim m [ ]
in_at d (y ∷ ys) x (inl e) = (0, omega arith, sym e)
in_at d (y ∷ ys) x (inr m) = let r = in_at d ys x m in (suc r.0, omega (arith, r.1), r.2)

-- of a list mapped
pub at_map : {A B : Type 0} (f : A → B) (d : A) (e : B) (xs : List A) (k : ℕ) → k < length xs → get_or (map f xs) k e ≡ f (get_or xs k d)
at_map f d e [] k l = absurd (omega arith)
at_map f d e (x ∷ xs) zero l = refl
at_map f d e (x ∷ xs) (suc k) l = at_map f d e xs k (omega arith)

-- pairs of a list, place by place
pub pairwise_at : {A : Type 0} (R : A → A → Type 0) (e : A) (xs : List A) → Pairwise R xs → (i j : ℕ) → i < j → j < length xs → R (get_or xs i e) (get_or xs j e)
pairwise_at R e [] h i j l k = absurd (omega arith)
pairwise_at R e (x ∷ xs) h i zero l k = absurd (omega arith)
pairwise_at R e (x ∷ xs) h zero (suc j) l k = h.0 (get_or xs j e) (at_in e xs j (omega arith))
pairwise_at R e (x ∷ xs) h (suc i) (suc j) l k = pairwise_at R e xs h.1 i j (omega arith) (omega arith)

-- Slots.

-- a slot that is not in use, but for its id
abbrev with_id : Id → Entry
with_id i =
    let e = blank.event in
    record {
      event = record {
        id = i;
        program = e.program;
        controls = e.controls;
        created = e.created;
        start = e.start;
        duration = e.duration;
        randomize_start = e.randomize_start;
        randomize_duration = e.randomize_duration;
        start_draw = e.start_draw;
        duration_draw = e.duration_draw;
      };
      begins = blank.begins;
      held = blank.held;
      cancelled = blank.cancelled;
      choice = blank.choice;
    }

pub unused_lem : blank ≡ no_entry
unused_lem = ap with_id zero_halves

module _ (w : List Entry) (n : ℕ) (fits : n ≤ length w) where
  pub in_slots : length (take n w) ≡ n
  in_slots = length-take-le n w fits

  pub slot_at : (k : ℕ) → k < n → get_or (take n w) k no_entry ≡ event_at w k
  slot_at k l = ap (get_or (take n w) k) (sym unused_lem) ∙ get_or-take n w k blank l

module _ {d : Head} {w : List Entry} (r : Ready d w) where
  pub within : d.count ≤ length w
  within = omega (arith, r.used.few, r.used.size)

  -- as many events as there are slots in use
  pub count_of : (schedule_of d w).count ≡ d.count
  count_of = in_slots w d.count within

  pub view_of : view (schedule_of d w) ≡ slot_state d w
  view_of = view_pad (slot_state d w)

  pub sound_of : Sound (slot_state d w)
  sound_of = subst Sound view_of (sound_view (schedule_of d w) r.good)

-- A schedule in place.

module _ (s : Schedule) (e : sound s ≡ true) where
  pub in_use : InUse s.count s.entries
  in_use = let r = rules s e in record { few = r.count; size = r.full }

  pub fits : s.count ≤ length s.entries
  fits = omega (arith, in_use.few, in_use.size)

  -- head and slots are the schedule
  pub ready : Ready (head_of s) s.entries
  ready = record { used = in_use; good = ap sound (pad_view s e) ∙ e }

-- what is not in use stands nowhere
none_behind : (m k : ℕ) → event_at (replicate m no_entry) k ≡ blank
none_behind m k =
    ap (λ x. get_or (replicate m x) k blank) (sym unused_lem)
    ∙ cases (ltb k m)
    (λ l. get_or-replicate m k blank blank (ltb-true k m l))
    (λ l. get_or-eq_default (replicate m blank) blank (omega (arith, length-replicate m blank, ltb-false k m l)))

-- behind those in use a sound schedule has none
pub unused : (s : Schedule) → sound s ≡ true → Unused s.count s.entries
unused s e =
    let u = in_use s e in
    let hs = take s.count s.entries in
    let many : length hs ≡ s.count = in_slots s.entries s.count (omega (arith, u.few, u.size)) in
    record {
      used = u;
      none = λ j l. ap (λ z. event_at z.entries j) (sym (pad_view s e)) ∙ get_or-append_right hs _ j blank (omega (arith, many)) ∙ none_behind (most_events - length hs) (j - length hs);
    }

-- and a schedule that has none there is what it says
pub says : (s : Schedule) → Unused s.count s.entries → s ≡ pad (view s)
says s u = λ i. record { clock = s.clock; count = sym many i; programs = s.programs; entries = rest i }
  where
    hs : List Entry
    hs = take s.count s.entries

    many : length hs ≡ s.count
    many = in_slots s.entries s.count (omega (arith, u.used.few, u.used.size))

    behind : List Entry
    behind = replicate (most_events - length hs) no_entry

    long : length s.entries ≡ length (hs ++ behind)
    long = sym (length-append hs behind ∙ omega (arith, length-replicate (most_events - length hs) no_entry, many, u.used.few, u.used.size))

    rest : s.entries ≡ hs ++ behind
    rest = ext_get_or blank s.entries (hs ++ behind) long (λ j l. cases (ltb j s.count)
        (λ q. let h = ltb-true j s.count q in sym (get_or-append hs behind blank j (omega (arith, many)) ∙ get_or-take s.count s.entries j blank h))
        (λ q. let h = ltb-false j s.count q in u.none j h ∙ sym (get_or-append_right hs behind j blank (omega (arith, many)) ∙ none_behind (most_events - length hs) (j - length hs))))
