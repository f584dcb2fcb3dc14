-- An operation whose call leaves the schedule as it was: an accepted image is that of its schedule, so storing would change nothing.
use mathlib.Core.Path.{◌≡◌, refl, sym, ap, ◌∙◌}
use Prim.Native.Nat.{ℕ, ◌*◌, ◌/◌, ◌<◌, ◌≤◌}
use mathlib.Core.Bool.{Bool, true, false, cond, not}
use mathlib.Core.List.{List, []}
use native.Mathlib.Omega.{arith}
use borrow.Author.Tests.{eqb-true, not-false, lt-ltb, le-ltb}
use lib.Dec.{ltb, eqb}
use lib.ListN.{length, take, drop, replicate, length-replicate}
use lib.Seq.{take_at}
use Rattle.std.specs.Prelude.{Result, Ok, Err, Some, None}
use Rattle.rules.specs.declared.Refusal.{Refusal}
use Rattle.rules.specs.declared.Reply.{Reply}
use Rattle.rules.specs.declared.Reply.TheVariants.{Code, Count, Holder, Default, Nobody}
use Rattle.rules.specs.declared.Id.{Id}
use Rattle.rules.specs.declared.Record.{Record}
use Rattle.rules.specs.declared.Schedule.{Schedule}
use Rattle.rules.specs.Lists.{over}
use Rattle.rules.specs.Records.{id_size, id_number, no_entry, view}
use Rattle.rules.specs.Sound.{sound}
use Rattle.rules.specs.Bytes.{big, flat, record_size, record_bytes}
use Rattle.rules.specs.Image.{image}
use Rattle.rules.specs.Calls.{ask, Outcome, holder, number_of, value_of, record_of, does, refusal, accepts, accepted, refused, call}
use Rattle.rules.specs.Face.{Operation, asks, lists, as_call, answer_bytes, id_too_long, shown, negative, lent_after, face}
use Rattle.rules.proofs.Tests.{first_not}
use Rattle.rules.proofs.Numbers.{Bytes, big_length}
use Rattle.rules.proofs.Images.{image_loaded}
use Rattle.rules.proofs.SoundState.{pad_view}
use Rattle.octets.specs.Octets.{put_at}
use Rattle.octets.proofs.Fits.{put_inside}
use Rattle.calls.specs.declared.Answered.{Answered}
use Rattle.calls.specs.Answered.{outcome_of}
use Rattle.listing.proofs.Recorded.{held, held_count, lists_short, lists_all}
use Rattle.hadulmir.specs.Outcomes.{face_of, holder_of, returned_for}
use Rattle.hadulmir.proofs.Facing.{some_or, is_some, Formed, accepted_image, of_image, face_is}

module _ {l : List ℕ} {b : Schedule} (f : Formed l b) (bytes : Bytes l) where
  -- the bytes are the image of what was read
  is_image : image b ≡ l
  is_image = ap image f.schedule ∙ image_loaded l bytes f.well

  -- accepted, and the schedule as it was
  pub shows : (op : Operation) (lent : List ℕ) {o : Outcome} → o ≡ call b (as_call op lent) → o.number ≡ 0 → o.state ≡ b
      → id_too_long o.value (length lent) ≡ false → face l op lent ≡ face_of (shown o.value) l (lent_after op o lent)
  shows op lent {o} q z s long =
      face_is f op lent q long ∙ ap (λ (n : ℕ). cond (eqb n 0) (face_of (shown o.value) (image o.state) (lent_after op o lent)) (face_of (negative n) l lent)) z
      ∙ ap (λ (m : List ℕ). face_of (shown o.value) m (lent_after op o lent)) (ap image s ∙ is_image)

-- Ask for a control.

ask_leaves : (s : Schedule) (c : ℕ) → (call s (ask c)).state ≡ s
unfolding call refusal does
ask_leaves s c = by (accepts s (ask c)) refl
  where
    by : (t : Bool) → accepts s (ask c) ≡ t → (cond t (accepted (does (view s) (ask c))) (refused s (ask c))).state ≡ s
    by true h = pad_view s (not-false (sound s) (first_not 2 (not (sound s)) _ refl h).0)
    by false h = refl

-- no bytes fit any buffer
none_fits : (lent : List ℕ) → ltb (length lent) 0 ≡ false
none_fits lent = le-ltb (length lent) 0 (omega arith)

-- an answer that names no holder has no id to be written
unnamed : (a : Result Reply Refusal) → holder_of a ≡ None → answer_bytes (value_of a) ≡ []
unnamed (Ok (Code n)) k = refl
unnamed (Ok (Count n)) k = refl
unnamed (Ok (Holder i)) k = absurd (is_some i k)
unnamed (Ok (Default p)) k = refl
unnamed (Ok Nobody) k = refl
unnamed (Err e) k = refl

-- and one that names one is it
pub named_by : (a : Result Reply Refusal) (i : Id) → holder_of a ≡ Some i → a ≡ Ok (Holder i)
named_by (Ok (Code n)) i k = absurd (is_some i (sym k))
named_by (Ok (Count n)) i k = absurd (is_some i (sym k))
named_by (Ok (Holder j)) i k = ap (λ (x : Id). Ok (Holder x)) (ap (some_or i) k)
named_by (Ok (Default p)) i k = absurd (is_some i (sym k))
named_by (Ok Nobody) i k = absurd (is_some i (sym k))
named_by (Err e) i k = absurd (is_some i (sym k))

module _ {l : List ℕ} {b : Schedule} (f : Formed l b) (bytes : Bytes l) (c : ℕ) (lent : List ℕ) (a : Answered) (q : outcome_of a [] [] ≡ call b (ask c)) where
  leaves : a.schedule ≡ b
  leaves = ap (λ (o : Outcome). o.state) q ∙ ask_leaves b c

  pub asked_other : holder_of a.answer ≡ None → {r : ℕ} → r ≡ returned_for a.answer → face_of r l lent ≡ face l (asks c) lent
  unfolding returned_for
  asked_other k p = ap (λ (r : ℕ). face_of r l lent) p ∙ by (eqb (number_of a.answer) 0) refl
    where
      none : answer_bytes (value_of a.answer) ≡ []
      none = unnamed a.answer k

      fits : id_too_long (value_of a.answer) (length lent) ≡ false
      fits = rw none (none_fits lent)

      by : (t : Bool) → eqb (number_of a.answer) 0 ≡ t → face_of (cond t (shown (value_of a.answer)) (negative (number_of a.answer))) l lent ≡ face l (asks c) lent
      by true h =
          sym (shows f bytes (asks c) lent q (eqb-true (number_of a.answer) 0 h) leaves fits
          ∙ ap (λ (v : List ℕ). face_of (shown (value_of a.answer)) l (over v lent)) none)
      by false h = sym (face_is f (asks c) lent q fits ∙ rw h)

-- a holder, by what the call left
module _ {l : List ℕ} {b : Schedule} (f : Formed l b) (c : ℕ) (lent : List ℕ) (a : Answered) (q : outcome_of a [] [] ≡ call b (ask c)) {i : Id} (e : a.answer ≡ Ok (Holder i)) where
  named : record { number = 0; value = holder (id_number i); state = a.schedule; bytes = []; records = [] } ≡ call b (ask c)
  named = ap (λ (x : Result Reply Refusal). outcome_of (record { answer = x; schedule = a.schedule }) [] []) (sym e) ∙ q

  long : (n : ℕ) → ltb (length lent) id_size ≡ ltb (length lent) (length (big id_size n))
  long n = rw (big_length id_size n)

  pub asked_long : length lent < id_size → {r : ℕ} → r ≡ negative 13 → face_of r l lent ≡ face l (asks c) lent
  unfolding face
  asked_long h p = rw (p, accepted_image f (ask c) named refl, ← of_image f (ask c) named, sym (long (id_number i)) ∙ lt-ltb (length lent) id_size h)

  pub asked_holder : Bytes l → id_size ≤ length lent → {m : List ℕ} → m ≡ put_at id_size 0 (id_number i) lent → face_of 1 l m ≡ face l (asks c) lent
  asked_holder bytes h p =
      ap (face_of 1 l) (p ∙ put_inside id_size 0 lent (id_number i) h)
      ∙ sym (shows f bytes (asks c) lent named refl (ap (λ (o : Outcome). o.state) named ∙ ask_leaves b c) (sym (long (id_number i)) ∙ le-ltb (length lent) id_size h))

-- List.

module _ {l : List ℕ} {b : Schedule} (f : Formed l b) (bytes : Bytes l) (lent : List ℕ) (e : sound b ≡ true) where
  abbrev n : ℕ
  n = b.count

  -- the places of a lent list that its bytes have room for
  abbrev old : List Record
  old = replicate (length lent / record_size) (record_of no_entry)

  size : length old ≡ length lent / record_size
  size = length-replicate (length lent / record_size) (record_of no_entry)

  pub listed_short : length lent < record_size * n → {r : ℕ} → r ≡ negative 13 → face_of r l lent ≡ face l lists lent
  listed_short h p =
      ap (λ (r : ℕ). face_of r l lent) p
      ∙ sym (face_is f lists lent (lists_short b e (length lent / record_size) (omega (arith, h)) old size) (none_fits lent))

  pub listed_all : record_size * n ≤ length lent → {m : List ℕ} → m ≡ over (flat record_bytes (held b)) lent → face_of n l m ≡ face l lists lent
  listed_all h p =
      let hs = held b in
      let q = lists_all b e old (omega (arith, h, size)) in
      let written : take n (over hs old) ≡ hs = take_at hs (drop (length hs) old) n (held_count b e) in
      ap (face_of n l) (p ∙ ap (λ (r : List Record). over (flat record_bytes r) lent) (sym written)) ∙ sym (shows f bytes lists lent q refl refl (none_fits lent))
