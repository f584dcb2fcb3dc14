use mathlib.Core.Path.{◌≡◌, refl, sym, ap, ◌∙◌, subst}
use Prim.Native.Nat.{ℕ, ◌+◌}
use mathlib.Core.List.{List, [], ◌++◌, append_assoc, append-nil}
use native.Mathlib.Omega.{arith}
use lib.ListN.{length, drop, length-drop}
use lib.Seq.{length-take-le, drop-drop}
use Rattle.rules.specs.declared.Schedule.{Schedule}
use Rattle.rules.specs.Printed.{lines_of, tell_all, tell_all_in}
use Rattle.calls.specs.declared.Ran.{Ran}
use Rattle.frame.specs.Ends.{ended_of}
use Rattle.frame.proofs.Ends.{rest_of}
use Rattle.calls.specs.Lines.{ran_of, run_outcome}
use Rattle.calls.specs.Whole.{wrote, TextGoesOn}
use Rattle.calls.proofs.Progress.{went}
use Rattle.calls.proofs.Whole.{step, ended_step}
use Rattle.schedule.proofs.print_lines.Invariants.{Printed}
use Rattle.schedule.proofs.print_lines.Goals as goal

module _ {first : Schedule} {piece : List ℕ} {s : Schedule} {from : ℕ} (p : Printed first piece s from) where
  -- one run more
  printed_more : (r : Ran) (out : List ℕ) {rest bytes : List ℕ} → ran_of r bytes ≡ run_outcome s rest out → rest ≡ drop from piece → Printed first piece r.schedule (from + r.read)
  printed_more r out {rest} {bytes} q e =
      let lines : (after : List ℕ) → tell_all s (lines_of (drop from piece ++ after)) ≡ wrote (ran_of r bytes) ++ tell_all r.schedule (lines_of (drop (from + r.read) piece ++ after)) =
      λ after. rw (e, drop-drop) at (subst (λ o. tell_all s (lines_of (rest ++ after)) ≡ wrote o ++ tell_all o.state (lines_of (drop o.read rest ++ after))) (sym q) (step s rest out after)) in
      let ended : tell_all s (ended_of (drop from piece)) ≡ wrote (ran_of r bytes) ++ tell_all r.schedule (ended_of (drop (from + r.read) piece)) =
      rw (e, drop-drop) at (subst (λ o. tell_all s (ended_of rest) ≡ wrote o ++ tell_all o.state (ended_of (drop o.read rest))) (sym q) (ended_step s rest out)) in
      record {
        text = p.text ++ wrote (ran_of r bytes);
        lines = λ after. p.lines after ∙ rw (lines after, append_assoc);
        ended = p.ended ∙ rw (ended, append_assoc);
      }

  -- no line that has ended is left
  printed_all : ended_of (drop from piece) ≡ [] → TextGoesOn first piece s (drop from piece)
  unfolding tell_all_in
  printed_all none after =
      let all : tell_all first (ended_of piece) ≡ p.text = p.ended ∙ rw none (append-nil p.text) in
      rw all (p.lines after)

pub loop-ran-init : goal.loop-ran-init
loop-ran-init g c = (c.requires.kept_rules, omega arith, record { text = []; lines = λ after. refl; ended = refl })

pub slice_bounds-run-start : goal.slice_bounds-run-start
slice_bounds-run-start g c = c.loop-ran.invariant.1

pub slice_bounds-write_all-end : goal.slice_bounds-write_all-end
slice_bounds-write_all-end g c =
    let l = c.loop-ran in
    let w = went l.s l.invariant.0 c.run-ran.result c.run-ran.ensures in
    omega (arith, w.fits, c.counted-n.ensures)

pub slice_bounds-write_all-end-in-loop-ran : goal.slice_bounds-write_all-end-in-loop-ran
slice_bounds-write_all-end-in-loop-ran g c =
    let l = c.loop-ran in
    let w = went l.s l.invariant.0 c.run-ran.result c.run-ran.ensures in
    sym (length-take-le c.counted-n.result c.run-ran.new.out (omega (arith, w.fits, c.counted-n.ensures)))

pub returns-then-is_err : goal.returns-then-is_err
returns-then-is_err g c =
    let l = c.loop-ran in
    let w = went l.s l.invariant.0 c.run-ran.result c.run-ran.ensures in
    record { kept_rules = w.is_sound; taken = l.invariant.1 }

pub returns-then-ran-eq0 : goal.returns-then-ran-eq0
returns-then-ran-eq0 g c =
    let left_of = rest_of c.args.piece.now c.loop-ran.from in
    let l = c.loop-ran in
    let w = went l.s l.invariant.0 c.run-ran.result c.run-ran.ensures in
    let none = rw left_of at (w.some (omega (arith, c.requires.room)) c.if-ran-eq0.true) in
    let stays : l.from + c.run-ran.result.read ≡ l.from = omega (arith, c.if-ran-eq0.true) in
    let goes_on = printed_all (rw stays at (printed_more l.invariant.2 c.run-ran.result _ c.run-ran.ensures left_of)) none in
    record { kept_rules = w.is_sound; taken = record { within = l.invariant.1; none_left = none; goes_on = goes_on } }

pub overflow_add-from : goal.overflow_add-from
overflow_add-from g c =
    let left_of = rest_of c.args.piece.now c.loop-ran.from in
    let l = c.loop-ran in
    let w = went l.s l.invariant.0 c.run-ran.result c.run-ran.ensures in
    record { fits = omega (arith, w.within, l.invariant.1, ap length left_of, length-drop l.from c.args.piece.now) }

pub loop-ran-smaller : goal.loop-ran-smaller
loop-ran-smaller g c =
    let l = c.loop-ran in
    let w = went l.s l.invariant.0 c.run-ran.result c.run-ran.ensures in
    omega (arith, w.within, c.if-ran-eq0.false, l.invariant.1)

pub loop-ran-preserved : goal.loop-ran-preserved
loop-ran-preserved g c =
    let left_of = rest_of c.args.piece.now c.loop-ran.from in
    let l = c.loop-ran in
    let w = went l.s l.invariant.0 c.run-ran.result c.run-ran.ensures in (
      w.is_sound,
      omega (arith, w.within, l.invariant.1),
      printed_more l.invariant.2 c.run-ran.result _ c.run-ran.ensures left_of,
    )
