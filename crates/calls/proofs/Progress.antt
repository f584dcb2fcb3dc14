-- A run into a buffer that any text fits takes at least one line.
use mathlib.Core.Path.{◌≡◌, refl, sym, ap, ◌∙◌}
use Prim.Native.Nat.{ℕ, ◌-◌, ◌≤◌}
use mathlib.Core.Bool.{true}
use mathlib.Core.List.{List, [], ◌∷◌}
use native.Mathlib.Omega.{arith}
use borrow.Author.Tests.{le-leb, leb-true}
use borrow.Table.Steps.{cases}
use lib.Dec.{leb}
use lib.ListN.{length, length-append}
use Rattle.rules.specs.declared.Schedule.{Schedule}
use Rattle.rules.specs.Sound.{sound}
use Rattle.rules.specs.Calls.{value_of, counted}
use Rattle.rules.specs.Printed.{tell}
use Rattle.text.specs.Texts.{most_text}
use Rattle.frame.specs.Ends.{ended_of}
use Rattle.calls.specs.Lines.{runs, RunOutcome, ran_of, ran_into, run_outcome}
use Rattle.calls.specs.declared.Ran.{Ran}
use Rattle.calls.proofs.Longest.{tell_length}
use Rattle.calls.proofs.Running.{sound_told, runs_within}

-- what a run writes fits
pub runs_fits : (room : ℕ) (s : Schedule) (ls : List (List ℕ)) → length (runs room s ls).text ≤ room
unfolding runs
runs_fits room s [] = omega arith
runs_fits room s (l ∷ ls) =
    let o = tell s l in
    let rest = runs_fits (room - length o.text) o.state ls in
    cases (leb most_text room) (λ e. rw e (simp length-append (omega (arith, leb-true most_text room e, tell_length s l)))) (λ e. rw e (omega arith))

-- a run that takes nothing has no line
pub runs_some : (room : ℕ) (s : Schedule) → most_text ≤ room → (ls : List (List ℕ)) → (runs room s ls).read ≡ 0 → ls ≡ []
unfolding runs
runs_some room s h [] z = refl
runs_some room s h (l ∷ ls) z = absurd (omega (arith, rw (le-leb most_text room h) at z))

-- a run leaves a sound schedule
pub runs_sound : (room : ℕ) (s : Schedule) → sound s ≡ true → (ls : List (List ℕ)) → sound (runs room s ls).state ≡ true
unfolding runs
runs_sound room s e [] = e
runs_sound room s e (l ∷ ls) =
    let o = tell s l in
    cases (leb most_text room) (λ t. rw t (runs_sound (room - length o.text) o.state (sound_told s e l) ls)) (λ t. rw t e)

-- what a caller that lends a buffer knows of a run on a sound schedule
pub record Went (lines out : List ℕ) (r : Ran) : Type 0 where
  pub is_sound : sound r.schedule ≡ true
  pub within : r.read ≤ length lines
  pub fits : counted (value_of r.answer) ≤ length out
  pub some : most_text ≤ length out → r.read ≡ 0 → ended_of lines ≡ []

pub went : (s : Schedule) → sound s ≡ true → (r : Ran) {lines out bytes : List ℕ} → ran_of r bytes ≡ run_outcome s lines out → Went lines out r
unfolding run_outcome
went s e r {lines} {out} {bytes} q =
    let f : ran_of r bytes ≡ ran_into (runs (length out) s (ended_of lines)) out = q ∙ rw e in
    let read = ap (λ (o : RunOutcome). o.read) f in
    record {
      is_sound = rw (ap (λ (o : RunOutcome). o.state) f) (runs_sound (length out) s e (ended_of lines));
      within = omega (arith, read, runs_within (length out) s lines);
      fits = omega (arith, ap (λ (o : RunOutcome). counted o.value) f, runs_fits (length out) s (ended_of lines));
      some = λ h z. runs_some (length out) s h (ended_of lines) (sym read ∙ z);
    }
