-- The run over lines: what is known before each line, and what a line adds.
use mathlib.Core.Path.{◌≡◌, refl, sym, ap, ◌∙◌}
use Prim.Native.Nat.{ℕ, suc, ◌+◌, ◌-◌, ◌<◌, ◌≤◌}
use mathlib.Core.Bool.{true}
use mathlib.Core.List.{List, [], ◌∷◌, ◌++◌, append_assoc, append-nil}
use native.Mathlib.Omega.{arith}
use borrow.Author.Tests.{le-leb, lt-leb}
use borrow.Table.Steps.{cases}
use lib.Dec.{leb, eqb}
use lib.ListN.{length, take, drop, length-append, length-drop, drop_of_length-le}
use lib.Seq.{drop-drop, length-take-le}
use Rattle.rules.specs.declared.Schedule.{Schedule}
use Rattle.rules.specs.declared.Line.{Line}
use Rattle.rules.specs.declared.Line.TheVariants.{Good, Bad}
use Rattle.rules.specs.Lists.{over}
use Rattle.rules.specs.Sound.{sound}
use Rattle.rules.specs.Calls.{count}
use Rattle.rules.specs.Frames.{line_of, frame_call}
use Rattle.rules.specs.Printed.{room, tell_frame, tell_line, tell, tell_in}
use Rattle.rules.proofs.Over.{over_then, over_size}
use Rattle.rules.proofs.SoundKept.{sound_call}
use Rattle.frame.specs.Ends.{longer, ended_of, up_to}
use Rattle.calls.specs.Lines.{Run, runs, ran_into}
use Rattle.text.specs.Texts.{most_text}
use Rattle.calls.specs.Says.{Says}
use Rattle.calls.proofs.Longest.{tell_length}
use Rattle.frame.proofs.Ends.{ended_first, ended_none, up_to_within}

-- a line leaves a sound schedule
pub sound_told : (s : Schedule) → sound s ≡ true → (l : List ℕ) → sound (tell s l).state ≡ true
unfolding tell_in tell_frame
sound_told s e l = by (line_of l)
  where
    by : (x : Line) → sound (tell_line s x).state ≡ true
    by (Good f) = sound_call s e (frame_call f room)
    by Bad = e

-- a run, with what came before it
abbrev pub after : ℕ → List ℕ → Run → Run
after n t r = record { state = r.state; read = n + r.read; text = t ++ r.text }

after_after : (m n : ℕ) (t u : List ℕ) (r : Run) → after m t (after n u r) ≡ after (m + n) (t ++ u) r
after_after m n t u r =
    let e : m + (n + r.read) ≡ m + n + r.read = omega arith in
    let f = sym (append_assoc t u r.text) in
    λ i. record { state = r.state; read = e i; text = f i }

after_none : (r : Run) → r ≡ after 0 [] r
after_none r = let e : r.read ≡ 0 + r.read = omega arith in λ i. record { state = r.state; read = e i; text = r.text }

-- before the line at `from`: `text` is what stands in the buffer of the lines before it, and the rest of the run is still to come
pub record Running (first : Schedule) (lines old : List ℕ) (s : Schedule) (from at : ℕ) (new : List ℕ) : Type 0 where
  pub text : List ℕ
  pub within : from ≤ length lines
  pub size : at ≡ length text
  pub fits : at ≤ length old
  pub stands : new ≡ over text old
  pub rest : runs (length old) first (ended_of lines) ≡ after from text (runs (length old - at) s (ended_of (drop from lines)))

pub running_none : (s : Schedule) (lines old : List ℕ) → Running s lines old s 0 0 old
running_none s lines old =
    let z : length old ≡ length old - 0 = omega arith in
    record { text = []; within = omega arith; size = refl; fits = omega arith; stands = refl; rest = ap (λ n. runs n s (ended_of lines)) z ∙ after_none _ }

module _ {first : Schedule} {lines old : List ℕ} {s : Schedule} {from at : ℕ} {new : List ℕ} (r : Running first lines old s from at new) where
  -- the buffer keeps its length
  pub running_size : length new ≡ length old
  running_size = rw r.stands (over_size 0 r.text old (omega (arith, r.size, r.fits)))

  -- no line is left, or the next does not fit
  pub running_all : runs (length old - at) s (ended_of (drop from lines)) ≡ record { state = s; read = 0; text = [] }
      → record { number = 0; value = count at; state = s; read = from; bytes = new } ≡ ran_into (runs (length old) first (ended_of lines)) old
  running_all e =
      let z : from + 0 ≡ from = omega arith in
      let f : runs (length old) first (ended_of lines) ≡ record { state = s; read = from; text = r.text } =
      r.rest ∙ ap (after from r.text) e ∙ (λ i. record { state = s; read = z i; text = append-nil r.text i }) in
      rw (f, r.stands, r.size)

  pub running_past : length lines ≤ from → record { number = 0; value = count at; state = s; read = from; bytes = new } ≡ ran_into (runs (length old) first (ended_of lines)) old
  unfolding runs ended_of
  running_past h = running_all (rw (drop_of_length-le lines {i = from} h))

  module _ (end : ℕ) (is_end_lem : end ≡ from + up_to (drop from lines)) where
    pub running_end : length lines ≤ end → record { number = 0; value = count at; state = s; read = from; bytes = new } ≡ ran_into (runs (length old) first (ended_of lines)) old
    unfolding runs
    running_end h = running_all (rw (ended_none (drop from lines) (omega (arith, up_to_within (drop from lines), length-drop from lines))))

    module _ (h : end < length lines) where
      -- the line
      abbrev l : List ℕ
      l = take (end - from) (drop from lines)

      next : ended_of (drop from lines) ≡ l ∷ ended_of (drop (end + 1) lines)
      next =
          let u : end - from ≡ up_to (drop from lines) = omega arith in
          let v : from + suc (up_to (drop from lines)) ≡ end + 1 = omega arith in
          rw (ended_first (drop from lines) (omega (arith, length-drop from lines)), drop-drop, v, u)

      pub running_stop : length old - at < most_text
          → record { number = 0; value = count at; state = s; read = from; bytes = new } ≡ ran_into (runs (length old) first (ended_of lines)) old
      unfolding runs
      running_stop g = running_all (rw (next, lt-leb most_text (length old - at) g))

      pub running_more : {behind : ℕ} {later : Schedule} {rows newer : List ℕ} {line : Line} → most_text ≤ length old - at → line ≡ line_of l → Says s line new at behind later rows newer
          → Running first lines old later (end + 1) behind newer
      unfolding runs tell_in
      running_more {behind} {later} {rows} {newer} {line} g is said =
          let says : Says s (line_of l) new at behind later rows newer = rw is at said in
          let t = (tell s l).text in
          let short = tell_length s l in
          let put = says.text.end in
          let none : 0 + length r.text ≡ length r.text = omega arith in
          let left : length old - at - length t ≡ length old - behind = omega arith in
          let size : length l ≡ end - from = length-take-le (end - from) (drop from lines) (omega (arith, length-drop from lines)) in
          let read : from + suc (length l) ≡ end + 1 = omega arith in
          let more = runs (length old - behind) later (ended_of (drop (end + 1) lines)) in
          let step : runs (length old - at) s (l ∷ ended_of (drop (end + 1) lines)) ≡ after (suc (length l)) t more =
          rw (le-leb most_text (length old - at) g, left, says.state) in
          record {
            text = r.text ++ t;
            within = omega arith;
            size = simp length-append (omega (arith, r.size));
            fits = omega (arith, r.fits);
            stands = says.text.is ∙ rw (r.stands, r.size) (rw none at (over_then 0 r.text t old (omega arith)));
            rest = r.rest ∙ ap (after from r.text) (rw next step) ∙ rw read at (after_after from (suc (length l)) r.text t more);
          }

-- how many bytes lines have, each with its line feed
unfoldable pub total : List (List ℕ) → ℕ
total [] = 0
total (l ∷ ls) = suc (length l) + total ls

total_ended : (l : List ℕ) → total (ended_of l) ≤ length l
unfolding ended_of total
total_ended [] = omega arith
total_ended (b ∷ bs) = cases (eqb b 10) (λ e. rw e (omega (arith, total_ended bs))) (λ e. rw e (by (ended_of bs) (total_ended bs)))
  where
    by : (ls : List (List ℕ)) → total ls ≤ length bs → total (longer b ls) ≤ suc (length bs)
    by [] h = omega arith
    by (l ∷ ls) h = omega arith

runs_total : (room : ℕ) (s : Schedule) (ls : List (List ℕ)) → (runs room s ls).read ≤ total ls
unfolding runs total
runs_total room s [] = omega arith
runs_total room s (l ∷ ls) =
    let o = tell s l in
    cases (leb most_text room) (λ e. rw e (omega (arith, runs_total (room - length o.text) o.state ls))) (λ e. rw e (omega arith))

-- a run takes no more than there is
pub runs_within : (room : ℕ) (s : Schedule) (l : List ℕ) → (runs room s (ended_of l)).read ≤ length l
runs_within room s l = omega (arith, runs_total room s (ended_of l), total_ended l)
