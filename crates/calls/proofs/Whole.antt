-- A run takes lines from the front of a text, and leaves those behind them as they were: so what is written goes on where the run stopped.
use mathlib.Core.Path.{◌≡◌, refl, sym, ap, ◌∙◌}
use Prim.Native.Nat.{ℕ, suc, ◌+◌, ◌-◌, ◌<◌, ◌≤◌}
use mathlib.Core.Bool.{Bool, true, false}
use mathlib.Core.List.{List, [], ◌∷◌, ◌++◌, append_assoc, append-nil}
use native.Mathlib.Omega.{arith}
use borrow.Author.Tests.{eq-eqb, ne_eqb, le-leb}
use borrow.Table.Steps.{cases}
use lib.Dec.{leb, eqb}
use lib.ListN.{length, take, drop, length-append}
use lib.Seq.{drop-drop, take-append_seam}
use Rattle.rules.specs.declared.Schedule.{Schedule}
use Rattle.rules.specs.Records.{id_size, fresh, pad}
use Rattle.rules.specs.Lists.{over}
use Rattle.rules.specs.Sound.{sound}
use Rattle.rules.specs.Calls.{count}
use Rattle.rules.specs.Printed.{lines_of, line_feed, tell, tell_in, tell_all, tell_all_in, output}
use Rattle.rules.specs.Example.{example_input, example_output}
use Rattle.rules.proofs.SoundState.{sound_pad}
use Rattle.rules.proofs.SoundKept.{sound_fresh}
use Rattle.rules.proofs.Evaluated.{worked_example}
use Rattle.frame.specs.Decoded.{longest_line}
use Rattle.frame.proofs.ByKind.{long_line}
use Rattle.text.specs.Texts.{most_text}
use Rattle.frame.specs.Ends.{ended_of}
use Rattle.calls.specs.Lines.{runs, run_outcome}
use Rattle.calls.specs.Whole.{wrote, after_lines, last_byte, Ended, Turn, came_in, turns}
use Rattle.frame.proofs.Ends.{first_line, cut_lines}
use Rattle.calls.proofs.Running.{total}
use Rattle.calls.proofs.Progress.{runs_some, runs_sound}

-- lines that begin with those that have ended, and go on with those of the rest
module _ (lines : List ℕ → List (List ℕ)) (first : (t l : List ℕ) (ls : List (List ℕ)) → ended_of t ≡ l ∷ ls → lines t ≡ l ∷ lines (drop (suc (length l)) t)) where
  runs_step : (ls : List (List ℕ)) (room : ℕ) (s : Schedule) (t : List ℕ) → ended_of t ≡ ls
      → tell_all s (lines t) ≡ (runs room s ls).text ++ tell_all (runs room s ls).state (lines (drop (runs room s ls).read t))
  unfolding runs tell_all_in
  runs_step [] room s t e = refl
  runs_step (l ∷ ls) room s t e =
      let o = tell s l in
      let ih = runs_step ls (room - length o.text) o.state (drop (suc (length l)) t) (first_line t l ls e).rest in
      cases (leb most_text room) (λ x. rw (x, first t l ls e, ih, drop-drop, append_assoc)) (λ x. rw x)

  run_step : (s : Schedule) (t out : List ℕ) → tell_all s (lines t) ≡ wrote (run_outcome s t out) ++ tell_all (run_outcome s t out).state (lines (drop (run_outcome s t out).read t))
  unfolding run_outcome
  run_step s t out =
      let texts = (runs (length out) s (ended_of t)).text in
      cases (sound s) (λ x. rw (x, take-append_seam texts (drop (length texts) out)) (runs_step (ended_of t) (length out) s t refl)) (λ x. rw x)

pub step : (s : Schedule) (t out more : List ℕ)
    → tell_all s (lines_of (t ++ more)) ≡ wrote (run_outcome s t out) ++ tell_all (run_outcome s t out).state (lines_of (drop (run_outcome s t out).read t ++ more))
step s t out more = run_step (λ t. lines_of (t ++ more)) (λ t l ls e. (first_line t l ls e).first more) s t out

pub ended_step : (s : Schedule) (t out : List ℕ)
    → tell_all s (ended_of t) ≡ wrote (run_outcome s t out) ++ tell_all (run_outcome s t out).state (ended_of (drop (run_outcome s t out).read t))
ended_step = run_step ended_of (λ t l ls e. e ∙ ap (λ r. l ∷ r) (sym (first_line t l ls e).rest))

-- with room for all texts and one more, no line is left for want of room
runs_all : (ls : List (List ℕ)) (room : ℕ) (s : Schedule) → length (tell_all s ls) + most_text ≤ room → runs room s ls ≡ record { state = after_lines s ls; read = total ls; text = tell_all s ls }
unfolding runs tell_all_in after_lines total
runs_all [] room s h = refl
runs_all (l ∷ ls) room s h =
    let o = tell s l in
    let size = length-append o.text (tell_all o.state ls) in
    rw (le-leb most_text room (omega arith), runs_all ls (room - length o.text) o.state (omega arith))

-- behind all lines that have ended there is none
none_behind : (ls : List (List ℕ)) (t : List ℕ) → ended_of t ≡ ls → ended_of (drop (total ls) t) ≡ []
unfolding total
none_behind [] t e = e
none_behind (l ∷ ls) t e = rw (← drop-drop (total ls) (suc (length l)) t) (none_behind ls (drop (suc (length l)) t) (first_line t l ls e).rest)

module _ (s : Schedule) (e : sound s ≡ true) (t out : List ℕ) where
  pub accepted : ((run_outcome s t out).number ≡ 0) × (sound (run_outcome s t out).state ≡ true)
  unfolding run_outcome
  accepted = rw e (refl, runs_sound (length out) s e (ended_of t))

  pub moves : most_text ≤ length out → (run_outcome s t out).read ≡ 0 → ended_of t ≡ []
  unfolding run_outcome
  moves h z = runs_some (length out) s h (ended_of t) (rw e at z)

  pub takes_all : length (tell_all s (ended_of t)) + most_text ≤ length out → (wrote (run_outcome s t out) ≡ tell_all s (ended_of t)) × (ended_of (drop (run_outcome s t out).read t) ≡ [])
  unfolding run_outcome
  takes_all h =
      let texts = tell_all s (ended_of t) in
      rw (e, runs_all (ended_of t) (length out) s h) (take-append_seam texts (drop (length texts) out), none_behind (ended_of t) t refl)

pub in_turn : (xs : List Turn) (s : Schedule) (left : List ℕ) → let r = turns s left xs in tell_all s (lines_of (left ++ came_in xs)) ≡ r.text ++ tell_all r.state (lines_of r.left)
unfolding turns
in_turn [] s left = rw append-nil
in_turn (x ∷ xs) s left =
    let r = run_outcome s (left ++ x.new) x.out in
    rw (← append_assoc left x.new (came_in xs), step s (left ++ x.new) x.out (came_in xs), in_turn xs r.state (drop r.read (left ++ x.new)), append_assoc)

pub all_taken : (xs : List Turn) → (turns (pad fresh) [] xs).left ≡ [] → (turns (pad fresh) [] xs).text ≡ output (came_in xs)
unfolding lines_of tell_all_in
all_taken xs e = sym (in_turn xs (pad fresh) [] ∙ rw e (append-nil (turns (pad fresh) [] xs).text))

-- a text all of whose lines have ended is these lines, each with its line feed
record AllEnded (t : List ℕ) : Type 0 where
  lines : lines_of t ≡ ended_of t
  size : total (ended_of t) ≡ length t

all_ended : (t : List ℕ) → Ended t → AllEnded t
unfolding lines_of ended_of last_byte total
all_ended [] h = record { lines = refl; size = refl }
all_ended (b ∷ []) h = let e = eq-eqb b 10 h in record { lines = rw e; size = rw e }
all_ended (b ∷ c ∷ t) h = by (eqb b 10) refl (ended_of (c ∷ t)) refl (all_ended (c ∷ t) h)
  where
    by : (x : Bool) → eqb b 10 ≡ x → (ls : List (List ℕ)) → ended_of (c ∷ t) ≡ ls → AllEnded (c ∷ t) → AllEnded (b ∷ c ∷ t)
    by true e ls q ih = record { lines = rw (e, ih.lines); size = rw e (omega (arith, ih.size)) }
    by false e [] q ih = absurd (omega (arith, rw q at ih.size))
    by false e (l ∷ ls) q ih = record { lines = rw (e, ih.lines, q); size = rw (e, q) (omega (arith, rw q at ih.size)) }

pub at_once : (s : Schedule) → sound s ≡ true → (t out : List ℕ) → Ended t → length (tell_all s (lines_of t)) + most_text ≤ length out
    → run_outcome s t out
    ≡ record { number = 0; value = count (length (tell_all s (lines_of t))); state = after_lines s (lines_of t); read = length t; bytes = over (tell_all s (lines_of t)) out }
unfolding run_outcome
at_once s e t out h room =
    let a = all_ended t h in
    rw (e, a.lines, runs_all (ended_of t) (length out) s (rw a.lines at room), a.size)

last_feed : (t : List ℕ) (b : ℕ) → last_byte b (t ++ line_feed) ≡ 10
unfolding last_byte
last_feed [] b = refl
last_feed (c ∷ t) b = last_feed t c

feed_same : (t : List ℕ) → (Ended t → ⊥) → lines_of (t ++ line_feed) ≡ lines_of t
unfolding lines_of last_byte
feed_same [] h = absurd (h refl)
feed_same (b ∷ []) h = rw (ne_eqb b 10 h)
feed_same (b ∷ c ∷ t) h = rw (feed_same (c ∷ t) h)

pub feed : (t : List ℕ) → (Ended t → ⊥) → (lines_of (t ++ line_feed) ≡ lines_of t) × Ended (t ++ line_feed)
feed t h = (feed_same t h, last_feed t 10)

-- a line that is longer than every frame's is none, so it does not count which it is
tell_long : (s : Schedule) (l m : List ℕ) → longest_line < length l → longest_line < length m → tell s l ≡ tell s m
unfolding tell_in
tell_long s l m h k = rw (long_line id_size l h, long_line id_size m k)

pub cut : (s : Schedule) (t more : List ℕ) → ended_of t ≡ [] → tell_all s (lines_of (take (longest_line + 1) t ++ more)) ≡ tell_all s (lines_of (t ++ more))
unfolding tell_all_in
cut s = cut_lines (tell_all s) longest_line (λ l m ls h k. rw (tell_long s l m h k))

pub gives_output : (t out : List ℕ) → Ended t → length (output t) + most_text ≤ length out
    → run_outcome (pad fresh) t out
    ≡ record { number = 0; value = count (length (output t)); state = after_lines (pad fresh) (lines_of t); read = length t; bytes = over (output t) out }
gives_output = at_once (pad fresh) (sound_pad fresh sound_fresh)

-- its last byte is a line feed
example_ended : Ended example_input
unfolding last_byte example_input
example_ended = refl

pub example : (out : List ℕ) → length example_output + most_text ≤ length out
    → run_outcome (pad fresh) example_input out
    ≡ record { number = 0; value = count (length example_output); state = after_lines (pad fresh) (lines_of example_input); read = length example_input; bytes = over example_output out }
example out room = rw worked_example at (gives_output example_input out example_ended (rw worked_example room))
