-- The C face does what the call by value does, and its numbers and values tell answers apart.
use mathlib.Core.Path.{◌≡◌, refl, sym, ap, ap₂, ◌∙◌}
use Prim.Native.Nat.{ℕ}
use mathlib.Core.Bool.{Bool, true, false, cond}
use mathlib.Core.List.{List, [], ◌∷◌}
use lib.Dec.{eqb}
use mathlib.Core.Option.{Option, none, some}
use native.Mathlib.Omega.{arith}
use lib.ListN.{length}
use Rattle.std.specs.Prelude.{get_or, Result, Ok, Err}
use borrow.Author.Tests.{eq-eqb, ne_eqb, le-ltb}
use Rattle.rules.specs.declared.Entry.{Entry}
use Rattle.rules.specs.declared.Schedule.{Schedule}
use Rattle.rules.specs.declared.Refusal.{Refusal}
use Rattle.rules.specs.declared.Refusal.TheVariants.{NoFrame, BrokenRule, NoSuchProgram, AddedBefore, ReservedPrimacy, NotAdded, Malformed, OtherFields, Late, Full, NotHeld, ClockOutOfRange, NoRoom, NoSuchControl, UpperHalf}
use Rattle.rules.specs.declared.Reply.{Reply}
use Rattle.rules.specs.declared.Reply.TheVariants.{Code, Count, Holder, Default, Nobody}
use Rattle.rules.specs.Records.{State, id_from, id_of, differ, fresh, view, pad}
use Rattle.rules.specs.Image.{image_size, image, loaded, imaged}
use Rattle.rules.specs.Refusals.{find}
use Rattle.rules.specs.Calls.{program, event, cancellation, decision, question, Call, bare, set_clock, list, received, cancel_code, choice_code, does, accepts, accepted, refused, Governor, by_event, by_program, by_none, Value, nothing, code, count, governor, refusal_number, number_of, value_of, call}
use Rattle.rules.specs.Face.{Operation, as_call, answer_bytes, id_too_long, shown, negative, lent_after, face, face_fresh}
use Rattle.rules.specs.Clauses.{AnswerFits, AnswerClause, FaceClauses, ImageKept}
use Rattle.rules.proofs.Tests.{both}
use Rattle.rules.proofs.IdLaws.{id_number_lem}
use Rattle.rules.proofs.SoundState.{sound_pad}
use Rattle.rules.proofs.SoundKept.{sound_fresh}
use Rattle.rules.proofs.Images.{fresh_fits, image_kept}

-- Answers.

-- the refusals at their numbers; none has number 0
abbrev refusals : List Refusal
refusals =
    NoFrame ∷ NoFrame ∷ BrokenRule ∷ NoSuchProgram ∷ AddedBefore ∷ ReservedPrimacy ∷ NotAdded ∷ Malformed ∷ OtherFields ∷ Late ∷ Full ∷ NotHeld
    ∷ ClockOutOfRange ∷ NoRoom ∷ NoSuchControl ∷ UpperHalf ∷ []

-- the answer that a number and a value stand for
abbrev governor_reply : Governor → Reply
governor_reply (by_event i) = Holder (id_from i)
governor_reply (by_program p) = Default p
governor_reply by_none = Nobody

abbrev answer_of : ℕ → Value → Result Reply Refusal
answer_of n nothing = Err (get_or refusals n NoFrame)
answer_of n (code k) = Ok (Code k)
answer_of n (count k) = Ok (Count k)
answer_of n (governor g) = Ok (governor_reply g)

-- a refusal has a number
pub some_number : (e : Refusal) → eqb (refusal_number e) 0 ≡ false
some_number NoFrame = refl
some_number BrokenRule = refl
some_number NoSuchProgram = refl
some_number AddedBefore = refl
some_number ReservedPrimacy = refl
some_number NotAdded = refl
some_number Malformed = refl
some_number OtherFields = refl
some_number Late = refl
some_number Full = refl
some_number NotHeld = refl
some_number ClockOutOfRange = refl
some_number NoRoom = refl
some_number NoSuchControl = refl
some_number UpperHalf = refl

refusal_back : (e : Refusal) → get_or refusals (refusal_number e) NoFrame ≡ e
refusal_back NoFrame = refl
refusal_back BrokenRule = refl
refusal_back NoSuchProgram = refl
refusal_back AddedBefore = refl
refusal_back ReservedPrimacy = refl
refusal_back NotAdded = refl
refusal_back Malformed = refl
refusal_back OtherFields = refl
refusal_back Late = refl
refusal_back Full = refl
refusal_back NotHeld = refl
refusal_back ClockOutOfRange = refl
refusal_back NoRoom = refl
refusal_back NoSuchControl = refl
refusal_back UpperHalf = refl

read_back : (a : Result Reply Refusal) → AnswerFits a → answer_of (number_of a) (value_of a) ≡ a
read_back (Ok (Code k)) f = refl
read_back (Ok (Count k)) f = refl
read_back (Ok (Holder i)) f = ap (λ x. Ok (Holder x)) (id_number_lem i f)
read_back (Ok (Default p)) f = refl
read_back (Ok Nobody) f = refl
read_back (Err e) f = ap Err (refusal_back e)

pub answer_clause : AnswerClause
answer_clause = record { apart = λ a b f g m n. sym (read_back a f) ∙ ap₂ answer_of m n ∙ read_back b g }

-- Ids in answers: a question alone may give one.

abbrev pub is_question : Call → Bool
is_question (bare (program n p d)) = false
is_question (bare (event e)) = false
is_question (bare (cancellation i)) = false
is_question (bare (decision i out)) = false
is_question (bare (question c)) = true
is_question (set_clock t b) = false
is_question (list r) = false

received_no_id : (o : Option Entry) → answer_bytes (received o) ≡ []
received_no_id none = refl
received_no_id (some h) = refl

cancelled_no_id : (o : Option Entry) → answer_bytes (cancel_code o) ≡ []
cancelled_no_id none = refl
cancelled_no_id (some h) = go h.cancelled
  where
    go : (b : Bool) → answer_bytes (cond b (code 0) (code 6)) ≡ []
    go true = refl
    go false = refl

choice_no_id : (out : Bool) (o : Option Entry) → answer_bytes (choice_code out o) ≡ []
choice_no_id out none = refl
choice_no_id out (some h) = go (differ h.choice.out out) out
  where
    go : (b out : Bool) → answer_bytes (cond b (cond out (code 4) (code 5)) (code 0)) ≡ []
    go true true = refl
    go true false = refl
    go false out = refl

does_no_id : (s : State) (c : Call) → is_question c ≡ false → answer_bytes (does s c).value ≡ []
unfolding does
does_no_id s (bare (program n p d)) q = refl
does_no_id s (bare (event e)) q = received_no_id (find (id_of e) s.entries)
does_no_id s (bare (cancellation i)) q = cancelled_no_id (find i s.entries)
does_no_id s (bare (decision i out)) q = choice_no_id out (find i s.entries)
does_no_id s (bare (question c)) q = both false (sym q) refl
does_no_id s (set_clock t b) q = refl
does_no_id s (list r) q = refl

pub no_id : (s : Schedule) (c : Call) → is_question c ≡ false → answer_bytes (call s c).value ≡ []
unfolding call
no_id s c q = go (accepts s c)
  where
    go : (b : Bool) → answer_bytes (cond b (accepted (does (view s) c)) (refused s c)).value ≡ []
    go true = does_no_id (view s) c q
    go false = refl

pub id_fits : (s : Schedule) (c : Call) → is_question c ≡ false → (room : ℕ) → id_too_long (call s c).value room ≡ false
id_fits s c q room = rw (no_id s c q) (le-ltb room 0 (omega arith))

-- The face.

module _ (l : List ℕ) (op : Operation) (lent : List ℕ) where
  broken : imaged l ≡ false → face l op lent ≡ record { returned = negative 2; image = l; lent = lent }
  unfolding face
  broken e = rw e

  unchanged : imaged l ≡ true → ((call (loaded l) (as_call op lent)).number ≡ 0 → ⊥)
      → face l op lent ≡ record { returned = negative (call (loaded l) (as_call op lent)).number; image = l; lent = lent }
  unfolding face
  unchanged e f = let z = ne_eqb (call (loaded l) (as_call op lent)).number 0 f in rw (e, z) (rw z)

  same : imaged l ≡ true → (call (loaded l) (as_call op lent)).number ≡ 0 → id_too_long (call (loaded l) (as_call op lent)).value (length lent) ≡ false
      → face l op lent
      ≡ record { returned = shown (call (loaded l) (as_call op lent)).value; image = image (call (loaded l) (as_call op lent)).state; lent = lent_after op (call (loaded l) (as_call op lent)) lent }
  unfolding face
  same e z f = rw (e, z, f)

  too_short : imaged l ≡ true → (call (loaded l) (as_call op lent)).number ≡ 0 → id_too_long (call (loaded l) (as_call op lent)).value (length lent) ≡ true
      → face l op lent ≡ record { returned = negative 13; image = l; lent = lent }
  unfolding face
  too_short e z f = rw (e, z, f)

-- The fresh image.

fresh_kept : ImageKept (pad fresh)
fresh_kept = image_kept (pad fresh) (sound_pad fresh sound_fresh) fresh_fits

fresh_face : (l : List ℕ) → length l ≡ image_size → (imaged (face_fresh l).image ≡ true) × (loaded (face_fresh l).image ≡ pad fresh)
unfolding face_fresh
fresh_face l n = rw (eq-eqb (length l) image_size n) (fresh_kept.accepted, fresh_kept.back)

pub face_clauses : FaceClauses
face_clauses = record { broken = broken; unchanged = unchanged; same = same; too_short = too_short; fresh = fresh_face }
