-- An operation on bytes that keep an image's length and marks: the call itself looks at the rules, and its outcome is what the face shows.
use mathlib.Core.Path.{◌≡◌, refl, sym, ap, ◌∙◌}
use Prim.Native.Nat.{ℕ}
use mathlib.Core.Bool.{Bool, true, false, cond}
use mathlib.Core.List.{List, []}
use borrow.Author.Tests.{eqb-true, eqb-false}
use lib.Dec.{eqb}
use lib.ListN.{length}
use Rattle.std.specs.Prelude.{Option, Some, None, Result, Ok, Err}
use Rattle.rules.specs.declared.Record.{Record}
use Rattle.rules.specs.declared.Schedule.{Schedule}
use Rattle.rules.specs.Records.{fresh, pad}
use Rattle.rules.specs.Sound.{sound}
use Rattle.rules.specs.Image.{image_size, image, loaded, formed, imaged}
use Rattle.rules.specs.Calls.{Bare, Call, bare, Outcome, number_of, value_of, counted, lent_bytes, call}
use Rattle.rules.specs.Face.{Operation, makes, as_call, answer_bytes, id_too_long, shown, negative, lent_after, FaceOutcome, face}
use Rattle.rules.proofs.Tests.{each_true}
use Rattle.rules.proofs.CallLaws.{call_clauses}
use Rattle.rules.proofs.FaceLaws.{is_question, no_id, id_fits, face_clauses}
use Rattle.image.specs.Exchange.{read_of, written_to}
use Rattle.calls.specs.declared.Answered.{Answered}
use Rattle.calls.specs.Answered.{outcome_of}
use Rattle.calls.proofs.Said.{call_counted}
use Rattle.hadulmir.specs.Outcomes.{face_of, MayStore, returned_for, finished}

-- an operation on bytes that are no image, or one that breaks a rule
pub unimaged : (l : List ℕ) → imaged l ≡ false → (op : Operation) (lent : List ℕ) {r : ℕ} → r ≡ negative 2 → face_of r l lent ≡ face l op lent
unimaged l e op lent q = ap (λ (r : ℕ). face_of r l lent) q ∙ sym (face_clauses.broken l op lent e)

-- What is read.

-- bytes of an image's length and marks, and the schedule in them
pub record Formed (l : List ℕ) (s : Schedule) : Type 0 where
  pub well : formed l ≡ true
  pub size : length l ≡ image_size
  pub schedule : s ≡ loaded l

-- the value there, or another
abbrev pub some_or : {A : Type 0} → A → Option A → A
some_or d (Some s) = s
some_or d None = d

abbrev one_if : {A : Type 0} → Option A → ℕ
one_if (Some s) = 1
one_if None = 0

pub is_some : {A : Type 0} (s : A) → Some s ≡ None → ⊥
is_some s e = eqb-false 1 0 refl (ap one_if e)

-- whether a read found an image, and the schedule that it gave with either answer
abbrev pub is_found : Result Schedule Schedule → Bool
is_found (Ok s) = true
is_found (Err s) = false

abbrev pub schedule_in : Result Schedule Schedule → Schedule
schedule_in (Ok s) = s
schedule_in (Err s) = s

module _ (l : List ℕ) {b : Result Schedule Schedule} (e : b ≡ read_of l) where
  pub is_read : (is_found b ≡ formed l) × (schedule_in b ≡ cond (formed l) (loaded l) (pad fresh))
  unfolding read_of
  is_read = rw e (by (formed l))
    where
      by : (t : Bool) → let r = cond t (Ok (loaded l)) (Err (pad fresh)) in (is_found r ≡ t) × (schedule_in r ≡ cond t (loaded l) (pad fresh))
      by true = (refl, refl)
      by false = (refl, refl)

  pub formed_as : {s : Schedule} → b ≡ Ok s → Formed l s
  unfolding formed
  formed_as f =
      let well = sym is_read.0 ∙ ap is_found f in
      record {
        well = well;
        size = eqb-true (length l) image_size (each_true (eqb (length l) image_size) _ well).0;
        schedule = sym (ap schedule_in f) ∙ rw well at is_read.1;
      }

  pub unformed : {s : Schedule} → b ≡ Err s → (imaged l ≡ false) × (s ≡ pad fresh)
  unfolding imaged
  unformed f = let bad = sym is_read.0 ∙ ap is_found f in (rw bad, sym (ap schedule_in f) ∙ rw bad at is_read.1)

  -- the same, as the read found it
  pub unread : {s : Schedule} → b ≡ Err s → (op : Operation) (lent : List ℕ) {r : ℕ} → r ≡ negative 2 → face_of r l lent ≡ face l op lent
  unread f = unimaged l (unformed f).0

-- What a call gave.

-- what the face shows of an outcome
abbrev pub faced : List ℕ → Operation → List ℕ → Outcome → FaceOutcome
faced l op lent o = cond (eqb o.number 0) (face_of (shown o.value) (image o.state) (lent_after op o lent)) (face_of (negative o.number) l lent)

module _ {l : List ℕ} {b : Schedule} (f : Formed l b) where
  sound_is : imaged l ≡ sound (loaded l)
  unfolding imaged
  sound_is = rw f.well

  -- what a call says of the schedule that was read, it says of the image's
  pub of_image : {o : Outcome} (c : Call) → o ≡ call b c → o ≡ call (loaded l) c
  of_image c q = q ∙ ap (λ (s : Schedule). call s c) f.schedule

  -- a call that was accepted found every rule kept
  pub accepted_image : {o : Outcome} (c : Call) → o ≡ call b c → o.number ≡ 0 → imaged l ≡ true
  accepted_image {o} c q z = by (sound (loaded l)) refl
    where
      by : (t : Bool) → sound (loaded l) ≡ t → imaged l ≡ true
      by true g = sound_is ∙ g
      by false g = absurd (eqb-false 2 0 refl (sym (ap (λ (o : Outcome). o.number) (of_image c q) ∙ call_clauses.broken (loaded l) c g) ∙ z))

  module _ (op : Operation) (lent : List ℕ) where
    -- the face is what it shows of the outcome by value
    pub face_is : {o : Outcome} → o ≡ call b (as_call op lent) → id_too_long o.value (length lent) ≡ false → face l op lent ≡ faced l op lent o
    face_is {o} p long = by (sound (loaded l)) (eqb o.number 0) refl refl
      where
        q : o ≡ call (loaded l) (as_call op lent)
        q = of_image (as_call op lent) p

        n : o.number ≡ (call (loaded l) (as_call op lent)).number
        n = ap (λ (o : Outcome). o.number) q

        by : (s t : Bool) → sound (loaded l) ≡ s → eqb o.number 0 ≡ t → face l op lent ≡ faced l op lent o
        by false t g h = face_clauses.broken l op lent (sound_is ∙ g) ∙ rw (n ∙ call_clauses.broken (loaded l) (as_call op lent) g)
        by true false g h = face_clauses.unchanged l op lent (sound_is ∙ g) (λ z. eqb-false o.number 0 h (n ∙ z)) ∙ rw h (rw (← n))
        by true true g h =
            face_clauses.same l op lent (sound_is ∙ g) (sym n ∙ eqb-true o.number 0 h) (rw (← q) long) ∙ rw h (rw (← q))

  -- whether every rule is kept, as a test of the schedule found it
  pub is_imaged : {t : Bool} → t ≡ sound b → imaged l ≡ t
  is_imaged q = sound_is ∙ ap sound (sym f.schedule) ∙ sym q

  -- what storing an outcome asks for
  pub small : (a : Answered) {bytes : List ℕ} {records : List Record} (c : Call) → outcome_of a bytes records ≡ call b c
      → MayStore a.answer l
  small a c q = record { few = rw (ap (λ (o : Outcome). counted o.value) q) (call_counted b c); size = f.size }

-- What is written: the image if the length is right.
pub record WrittenAs (s : Schedule) (l : List ℕ) (t : Bool) (m : List ℕ) : Type 0 where
  pub fits : t ≡ eqb (length l) image_size
  pub leaves : m ≡ cond t (image s) l

pub written_as : (s : Schedule) (l : List ℕ) {t : Bool} {m : List ℕ} → (t, m) ≡ written_to s l → WrittenAs s l t m
unfolding written_to
written_as s l {t} {m} q = let p = by (eqb (length l) image_size) q in record { fits = p.0; leaves = p.1 }
  where
    by : (u : Bool) → ◌≡◌ {A = Bool × List ℕ} (t, m) (cond u (true, image s) (false, l)) → (t ≡ u) × (m ≡ cond t (image s) l)
    by true p = let h = ap (λ (x : Bool × List ℕ). x.0) p in (h, rw h (ap (λ (x : Bool × List ℕ). x.1) p))
    by false p = let h = ap (λ (x : Bool × List ℕ). x.0) p in (h, rw h (ap (λ (x : Bool × List ℕ). x.1) p))

-- An operation that stores what its call left. Its lent bytes are those that the call was lent.
pub stored : {l : List ℕ} {b : Schedule} → Formed l b → (op : Operation) (lent : List ℕ) (a : Answered) {after : List ℕ} {records : List Record}
    → outcome_of a after records ≡ call b (as_call op lent)
    → is_question (as_call op lent) ≡ false → lent_after op (outcome_of a after records) lent ≡ after → lent_bytes (as_call op lent) ≡ lent
    → {r : ℕ} {m : List ℕ} → (r, m) ≡ finished a l → face_of r m after ≡ face l op lent
unfolding finished returned_for
stored {l} {b} f op lent a {after} {records} q told kept whole p =
    ap (λ (x : ℕ × List ℕ). face_of x.0 x.1 after) p ∙ by (eqb (number_of a.answer) 0) refl ∙ sym (face_is f op lent q (rw (ap (λ (o : Outcome). o.value) q) (id_fits b (as_call op lent) told (length lent))))
  where
    by : (t : Bool) → eqb (number_of a.answer) 0 ≡ t
        → face_of (cond t (shown (value_of a.answer)) (negative (number_of a.answer))) (cond t (image a.schedule) l) after
        ≡ cond t (face_of (shown (value_of a.answer)) (image a.schedule) (lent_after op (outcome_of a after records) lent)) (face_of (negative (number_of a.answer)) l lent)
    by true h = rw kept
    by false h =
        let number = ap (λ (o : Outcome). o.number) q in
        let same = ap (λ (o : Outcome). o.bytes) q ∙ (call_clauses.unchanged _ (as_call op lent) (λ z. eqb-false (number_of a.answer) 0 h (number ∙ z))).1 ∙ whole in
        rw same

-- An operation that is lent nothing, from what the read found: its call asks no more of the store, and the store leaves what the face shows.
module _ (l : List ℕ) {o : Result Schedule Schedule} {b : Schedule} (e : o ≡ read_of l) (f : o ≡ Ok b) (a : Answered) where
  pub may_store : (c : Call) → outcome_of a [] [] ≡ call b c → MayStore a.answer l
  may_store = small (formed_as l e f) a

  pub stored_alone : (c : Bare) → outcome_of a [] [] ≡ call b (bare c) → is_question (bare c) ≡ false
      → {r : ℕ} {m : List ℕ} → (r, m) ≡ finished a l → face_of r m [] ≡ face l (makes c) []
  stored_alone c q told = stored (formed_as l e f) (makes c) [] a q told (rw (ap (λ (o : Outcome). answer_bytes o.value) q ∙ no_id b (bare c) told)) refl
