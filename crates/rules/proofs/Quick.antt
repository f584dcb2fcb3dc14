-- A run that goes from one moment at which something begins or ends to the next gives what the run gives, from every schedule that keeps the rules.
-- It is what evaluates quickly.
use mathlib.Core.Path.{◌≡◌, refl, sym, ap, ◌∙◌, subst}
use Prim.Native.Nat.{ℕ}
use mathlib.Core.Bool.{Bool, true, false, cond, ◌||◌}
use mathlib.Core.List.{List, [], ◌∷◌, ◌++◌}
use lib.Dec.{ltb, eqb}
use lib.ListN.{length}
use borrow.Author.Tests.{ltb-false, eqb-true}
use Rattle.rules.specs.declared.Frame.{Frame}
use Rattle.rules.specs.declared.Line.{Line}
use Rattle.rules.specs.declared.Line.TheVariants.{Good, Bad}
use Rattle.rules.specs.Records.{State, last_clock, pad}
use Rattle.rules.specs.Moments.{Moved}
use Rattle.rules.specs.Refusals.{Check, first_of, clock_checks}
use Rattle.rules.specs.Calls.{Call, bare, set_clock, list, nothing, Done, Outcome, clocked, does, checks, refusal, accepted, refused, lent_bytes, lent_list, call}
use Rattle.rules.specs.Frames.{line_in, frame_call}
use Rattle.rules.specs.Printed.{outcome_text, bad_text, room, Told, tell_frame, tell_line, tell_in, tell_all_in}
use Rattle.rules.specs.Marks.{Reply, reply_of, replies}
use Rattle.rules.proofs.Tests.{either_false}
use Rattle.rules.proofs.SoundState.{Sound}
use Rattle.rules.proofs.SoundKept.{sound_does, refusal_pad, call_pad}
use Rattle.rules.proofs.Jump.{jumps, jumps_advance}

-- a clock call's moments, from one at which something begins or ends to the next
abbrev quickly : State → ℕ → Moved
quickly s reading = jumps 200 reading s

-- checks and effects of a call, with the moments passed given
unfoldable pub quick_checks : State → Call → List Check
quick_checks s (bare c) = checks s (bare c)
quick_checks s (set_clock t b) = clock_checks s.clock t (length (quickly s t).rows) (length b)
quick_checks s (list r) = checks s (list r)

unfoldable pub quick_does : State → Call → Done
quick_does s (bare c) = does s (bare c)
quick_does s (set_clock t b) = clocked (quickly s t) b
quick_does s (list r) = does s (list r)

-- a refused call on the schedule as lists
abbrev kept : State → Call → Done
kept s c = record { state = s; value = nothing; bytes = lent_bytes c; records = lent_list c }

pub record Made : Type 0 where
  pub number : ℕ
  pub done : Done

unfoldable pub quick_call : State → Call → Made
quick_call s c =
    let n = first_of (quick_checks s c) in
    record { number = n; done = cond (eqb n 0) (quick_does s c) (kept s c) }

abbrev replied : Made → Reply
replied a = record { number = a.number; value = a.done.value; bytes = a.done.bytes; records = a.done.records }

unfoldable pub quick_replies : State → List Call → List Reply
quick_replies s [] = []
quick_replies s (c ∷ cs) = let a = quick_call s c in replied a ∷ quick_replies a.done.state cs

-- The same.

-- what a call on a schedule as lists gives
abbrev plain : State → Call → Made
plain s c = record { number = first_of (checks s c); done = cond (eqb (first_of (checks s c)) 0) (does s c) (kept s c) }

quick_call_lem : (s : State) → Sound s → (c : Call) → quick_call s c ≡ plain s c
unfolding quick_call quick_checks quick_does checks does clock_checks
quick_call_lem s v (bare c) = refl
quick_call_lem s v (set_clock t b) = go (ltb t s.clock || ltb last_clock t) refl
  where
    go : (x : Bool) → (ltb t s.clock || ltb last_clock t) ≡ x → quick_call s (set_clock t b) ≡ plain s (set_clock t b)
    go true e = rw e
    go false e =
        let r = either_false (ltb t s.clock) (ltb last_clock t) e in
        rw (jumps_advance 200 t s v (ltb-false last_clock t r.1))
quick_call_lem s v (list r) = refl

-- and on a schedule by value
abbrev pub padded : Made → Outcome
padded a = record { number = a.number; value = a.done.value; state = pad a.done.state; bytes = a.done.bytes; records = a.done.records }

call_plain : (s : State) → Sound s → (c : Call) → call (pad s) c ≡ padded (plain s c)
call_plain s v c = call_pad s v c ∙ go (eqb (first_of (checks s c)) 0) refl
  where
    go : (b : Bool) → eqb (first_of (checks s c)) 0 ≡ b → cond b (accepted (does s c)) (refused (pad s) c) ≡ padded (record { number = first_of (checks s c); done = cond b (does s c) (kept s c) })
    go true e = rw (eqb-true (first_of (checks s c)) 0 e)
    go false e = rw (refusal_pad s v c)

pub call_quick : (s : State) → Sound s → (c : Call) → call (pad s) c ≡ padded (quick_call s c)
call_quick s v c = call_plain s v c ∙ ap padded (sym (quick_call_lem s v c))

-- its number is the refusal
pub number_quick : (s : State) → Sound s → (c : Call) → refusal (pad s) c ≡ (quick_call s c).number
number_quick s v c = refusal_pad s v c ∙ ap (λ a. a.number) (sym (quick_call_lem s v c))

pub sound_quick : (s : State) → Sound s → (c : Call) → Sound (quick_call s c).done.state
sound_quick s v c = subst (λ a. Sound a.done.state) (sym (quick_call_lem s v c)) (go (eqb (first_of (checks s c)) 0) refl)
  where
    go : (b : Bool) → eqb (first_of (checks s c)) 0 ≡ b → Sound (cond b (does s c) (kept s c)).state
    go true e = sound_does s v c e
    go false e = v

pub quick_replies_lem : (s : State) → Sound s → (cs : List Call) → quick_replies s cs ≡ replies (pad s) cs
unfolding quick_replies replies
quick_replies_lem s v [] = refl
quick_replies_lem s v (c ∷ cs) =
    ap (λ rs. replied (quick_call s c) ∷ rs) (quick_replies_lem (quick_call s c).done.state (sound_quick s v c) cs)
    ∙ ap (λ o. reply_of o ∷ replies o.state cs) (sym (call_quick s v c))

-- Lines.

pub record QuickTold : Type 0 where
  pub state : State
  pub text : List ℕ

unfoldable pub quick_tell_frame : State → Frame → QuickTold
quick_tell_frame s f =
    let a = quick_call s (frame_call f room) in
    record { state = a.done.state; text = outcome_text s.clock f (padded a) }

abbrev quick_tell_line : State → Line → QuickTold
quick_tell_line s (Good f) = quick_tell_frame s f
quick_tell_line s Bad = record { state = s; text = bad_text }

unfoldable pub quick_tell_all : (w : ℕ) → State → List (List ℕ) → List ℕ
quick_tell_all w s [] = []
quick_tell_all w s (l ∷ ls) = let o = quick_tell_line s (line_in w l) in o.text ++ quick_tell_all w o.state ls

abbrev told : QuickTold → Told
told q = record { state = pad q.state; text = q.text }

tell_frame_lem : (s : State) → Sound s → (f : Frame) → tell_frame (pad s) f ≡ told (quick_tell_frame s f)
unfolding tell_frame quick_tell_frame
tell_frame_lem s v f =
    ap (λ o. record { state = o.state; text = outcome_text s.clock f o }) (call_quick s v (frame_call f room))

module _ (s : State) (v : Sound s) where
  tell_line_lem : (l : Line) → tell_line (pad s) l ≡ told (quick_tell_line s l)
  tell_line_lem (Good f) = tell_frame_lem s v f
  tell_line_lem Bad = refl

  sound_line : (l : Line) → Sound (quick_tell_line s l).state
  unfolding quick_tell_frame
  sound_line (Good f) = sound_quick s v (frame_call f room)
  sound_line Bad = v

pub quick_tell : (w : ℕ) (s : State) → Sound s → (ls : List (List ℕ)) → quick_tell_all w s ls ≡ tell_all_in w (pad s) ls
unfolding quick_tell_all tell_all_in tell_in
quick_tell w s v [] = refl
quick_tell w s v (l ∷ ls) =
    ap (λ t. (quick_tell_line s (line_in w l)).text ++ t) (quick_tell w (quick_tell_line s (line_in w l)).state (sound_line s v (line_in w l)) ls)
    ∙ ap (λ o. o.text ++ tell_all_in w o.state ls) (sym (tell_line_lem s v (line_in w l)))
