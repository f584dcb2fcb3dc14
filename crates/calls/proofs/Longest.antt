-- A line's text has a bound.
use Prim.Native.Nat.{ℕ, ◌≤◌}
use mathlib.Core.List.{List}
use native.Mathlib.Omega.{arith}
use borrow.Table.Steps.{cases}
use lib.Dec.{eqb}
use lib.ListN.{length, length-append}
use Rattle.rules.specs.declared.Schedule.{Schedule}
use Rattle.rules.specs.declared.Frame.{Frame}
use Rattle.rules.specs.declared.Frame.TheVariants as frame
use Rattle.rules.specs.declared.Line.{Line}
use Rattle.rules.specs.declared.Line.TheVariants.{Good, Bad}
use Rattle.rules.specs.Calls.{by_event, by_program, by_none, Value, nothing, code, count, governor, counted, call}
use Rattle.rules.specs.Frames.{line_of, frame_call}
use Rattle.rules.specs.Printed.{most_digits, most_id_digits, refused_text, code_text, ask_text, frame_text, room, tell_frame, tell_line, tell, tell_in}
use Rattle.text.specs.Texts.{most_text}
use Rattle.text.proofs.Printing.{decimal_length, three_length, rows_length}
use Rattle.calls.proofs.Said.{call_counted}

refused_length : (n : ℕ) → length (refused_text n) ≤ most_text
refused_length n = simp length-append (omega (arith, decimal_length most_digits n))

code_length : (t i : ℕ) (v : Value) → length (code_text t i v) ≤ most_text
code_length t i nothing = omega arith
code_length t i (code k) = cases (eqb k 0) (λ e. rw e (omega arith)) (λ e. rw e (omega (arith, three_length t i k)))
code_length t i (count n) = omega arith
code_length t i (governor g) = omega arith

ask_length : (c : ℕ) (v : Value) → length (ask_text c v) ≤ most_text
ask_length c nothing = omega arith
ask_length c (code k) = omega arith
ask_length c (count n) = omega arith
ask_length c (governor (by_event i)) = simp length-append (omega (arith, decimal_length most_digits c, decimal_length most_id_digits i))
ask_length c (governor (by_program p)) = simp length-append (omega (arith, decimal_length most_digits c, decimal_length most_digits p))
ask_length c (governor by_none) = simp length-append (omega (arith, decimal_length most_digits c))

frame_length : (s : Schedule) (f : Frame) → length (frame_text s.clock f (call s (frame_call f room))) ≤ most_text
frame_length s (frame.Event v) = code_length s.clock _ (call s (frame_call (frame.Event v) room)).value
frame_length s (frame.Cancel i) = code_length s.clock _ (call s (frame_call (frame.Cancel i) room)).value
frame_length s (frame.Clock t) =
    let o = call s (frame_call (frame.Clock t) room) in
    omega (arith, rows_length o.bytes (counted o.value) 0, call_counted s (frame_call (frame.Clock t) room))
frame_length s (frame.Program n p d) = omega arith
frame_length s (frame.OptOut i) = code_length s.clock _ (call s (frame_call (frame.OptOut i) room)).value
frame_length s (frame.OptIn i) = code_length s.clock _ (call s (frame_call (frame.OptIn i) room)).value
frame_length s (frame.Ask c) = ask_length c (call s (frame_call (frame.Ask c) room)).value

-- no line's text is longer
pub tell_length : (s : Schedule) (l : List ℕ) → length (tell s l).text ≤ most_text
unfolding tell_in tell_frame
tell_length s l = by (line_of l)
  where
    by : (x : Line) → length (tell_line s x).text ≤ most_text
    by (Good f) = let o = call s (frame_call f room) in cases (eqb o.number 0) (λ e. rw e (frame_length s f)) (λ e. rw e (refused_length o.number))
    by Bad = refused_length 1
