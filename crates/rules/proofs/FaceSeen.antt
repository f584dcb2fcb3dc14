-- The cases of the C face: on every image of a schedule, the face does what the quick call on that schedule shows.
use mathlib.Core.Path.{◌≡◌, refl, ap, ap₂, ◌∙◌}
use Prim.Native.Nat.{ℕ}
use mathlib.Core.Bool.{Bool, true, cond, not, ◌&&◌}
use mathlib.Core.List.{List, [], ◌∷◌}
use lib.Dec.{eqb}
use lib.ListN.{length}
use borrow.Author.Tests.{eqb-true}
use Rattle.rules.specs.Lists.{each, All}
use Rattle.rules.specs.Records.{id_number, id_from, State, usable, has, cut, join, fresh, pad}
use Rattle.rules.specs.Period.{drawn_start, effective_end, effective_start, earliest_start}
use Rattle.rules.specs.Holding.{key, better, claim, taken, held_at, holding_at}
use Rattle.rules.specs.Rows.{end_code, code_at, rows_with, rows_from, rows_at}
use Rattle.rules.specs.Moments.{entries_from, second, advance}
use Rattle.rules.specs.Bytes.{big, read, flat, many, row_bytes, event_in, event_bytes, entry_bytes, entry_at, record_bytes}
use Rattle.rules.specs.Sound.{out_of_range, malformed, same_event, whole, within_limits, sound}
use Rattle.rules.specs.Refusals.{◌if◌, first_of, find, late, program_checks, event_checks, held_checks, clock_checks, ask_checks, list_checks}
use Rattle.rules.specs.Calls.{Call, Outcome, call, run, best_default, holder_in, answer_for, does, checks}
use Rattle.rules.specs.Image.{program_bytes, program_from, image, loaded, marked, formed, imaged}
use Rattle.rules.specs.Face.{Operation, as_call, id_too_long, shown, negative, lent_after, FaceOutcome, face, face_fresh}
use Rattle.rules.specs.FaceTable.{FaceCase, FaceHolds, face_table, no_image}
use Rattle.rules.specs.Marks.{same}
use Rattle.rules.proofs.Tests.{each_true}
use Rattle.rules.proofs.ListLaws.{each_all}
use Rattle.rules.proofs.SoundState.{Sound}
use Rattle.rules.proofs.SoundKept.{sound_fresh}
use Rattle.rules.proofs.Jump.{jumps, next_moment, idle_for}
use Rattle.rules.proofs.Quick.{quick_checks, quick_does, quick_call, call_quick, sound_quick, padded}
use Rattle.rules.proofs.Evaluated.{same_lists}

-- the face, of whether the bytes are an image and of what the call on its schedule gives
abbrev faced : List ℕ → Operation → List ℕ → Bool → Outcome → FaceOutcome
faced l op lent whole o =
    let n = first_of (2 if not whole ∷ o.number if not (eqb o.number 0) ∷ 13 if id_too_long o.value (length lent) ∷ []) in
    cond (eqb n 0)
    (record { returned = shown o.value; image = image o.state; lent = lent_after op o lent })
    (record { returned = negative n; image = l; lent = lent })

-- the state after a list of calls
unfoldable quick_run : State → List Call → State
quick_run s [] = s
quick_run s (c ∷ cs) = quick_run (quick_call s c).done.state cs

quick_run_lem : (s : State) → Sound s → (cs : List Call) → run (pad s) cs ≡ pad (quick_run s cs)
unfolding run quick_run id_number id_from
quick_run_lem s v [] = refl
quick_run_lem s v (c ∷ cs) = ap (λ o. run o.state cs) (call_quick s v c) ∙ quick_run_lem (quick_call s c).done.state (sound_quick s v c) cs

sound_run : (s : State) → Sound s → (cs : List Call) → Sound (quick_run s cs)
unfolding quick_run id_number id_from
sound_run s v [] = v
sound_run s v (c ∷ cs) = sound_run (quick_call s c).done.state (sound_quick s v c) cs

-- what a case shows, on bytes that are an image of its schedule
abbrev quick_face : List ℕ → FaceCase → FaceOutcome
quick_face l c = faced l c.operation c.lent true (padded (quick_call (quick_run fresh c.before) (as_call c.operation c.lent)))

face_quick : (l : List ℕ) (c : FaceCase) → imaged l ≡ true → loaded l ≡ run (pad fresh) c.before → face l c.operation c.lent ≡ quick_face l c
unfolding face id_number id_from
face_quick l c e f =
    ap₂ (faced l c.operation c.lent) e
    (ap (λ s. call s (as_call c.operation c.lent)) (f ∙ quick_run_lem fresh sound_fresh c.before)
    ∙ call_quick (quick_run fresh c.before) (sound_run fresh sound_fresh c.before) (as_call c.operation c.lent))

abbrev shows : List ℕ → FaceCase → Bool
shows l c = eqb (quick_face l c).returned c.returned && same (quick_face l c).lent c.after

faces_evaluate : (l : List ℕ) → each (shows l) face_table ≡ true
unfolding face_table quick_run quick_call quick_checks quick_does jumps next_moment idle_for advance second entries_from rows_at rows_from rows_with end_code code_at holding_at held_at taken claim better key drawn_start effective_end effective_start earliest_start usable has cut join big flat row_bytes event_bytes entry_bytes record_bytes out_of_range malformed same_event find late program_checks event_checks held_checks clock_checks ask_checks list_checks best_default holder_in answer_for does checks id_number id_from
faces_evaluate l = refl

pub faces_hold : All FaceHolds face_table
faces_hold c m =
    record {
      returned = λ l e f. ap (λ o. o.returned) (face_quick l c e f) ∙ eqb-true (quick_face l c).returned c.returned (parts l).0;
      lent = λ l e f. ap (λ o. o.lent) (face_quick l c e f) ∙ same_lists (quick_face l c).lent c.after (parts l).1;
    }
  where
    parts : (l : List ℕ) → (eqb (quick_face l c).returned c.returned ≡ true) × (same (quick_face l c).lent c.after ≡ true)
    parts l = each_true (eqb (quick_face l c).returned c.returned) (same (quick_face l c).lent c.after) (each_all (shows l) face_table (faces_evaluate l) c m)

pub no_image_evaluates : no_image ≡ true
unfolding no_image face face_fresh read many program_from event_in entry_at loaded marked formed imaged whole within_limits sound image program_bytes entry_bytes event_bytes big flat id_number id_from
no_image_evaluates = refl
