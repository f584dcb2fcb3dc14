-- A line's text in a buffer, and where the line ends.
use mathlib.Core.Path.{◌≡◌, refl, sym, ap, ◌∙◌}
use Prim.Native.Nat.{ℕ, ◌+◌, ◌<◌, ◌≤◌}
use mathlib.Core.Bool.{Bool, true, false, cond}
use mathlib.Core.List.{List}
use native.Mathlib.Omega.{arith}
use borrow.Author.Tests.{eqb-true, le-leb}
use lib.Dec.{eqb}
use lib.ListN.{length, take, length-append}
use Rattle.std.specs.Prelude.{Result, Ok, Err}
use Rattle.rules.specs.declared.Refusal.{Refusal}
use Rattle.rules.specs.declared.Reply.{Reply}
use Rattle.rules.specs.declared.Line.{Line}
use Rattle.rules.specs.declared.Line.TheVariants.{Good, Bad}
use Rattle.rules.specs.Lists.{over_at}
use Rattle.rules.proofs.FaceLaws.{some_number}
use Rattle.rules.specs.Calls.{count, number_of, value_of, counted}
use Rattle.rules.specs.Frames.{line_in}
use Rattle.rules.specs.Printed.{most_digits, line_feed}
use Rattle.rules.specs.Converted.{Turned, LineOutcome, turned_text}
use Rattle.rules.proofs.Over.{over_then}
use Rattle.frame.specs.declared.Width.{Width}
use Rattle.frame.specs.Decoded.{width_of, longest_line}
use Rattle.frame.specs.Ends.{up_to, LikelyEnd}
use Rattle.frame.proofs.Ends.{end_of_frame}
use Rattle.text.specs.Texts.{Stands}
use Rattle.text.proofs.Printing.{decimal_length}
use Rattle.convert.specs.Turns.{other_than, turned_to, answered, refused_line, written_at, turned_at}
use Rattle.convert.proofs.Shapes.{turned_bad, turned_short}
use Rattle.converter.specs.Pieces.{most_turned, end_text, end_at}

-- where a line ends, by the number of its answer; one refusal alone has number 1
ends_at : (a : Result Reply Refusal) (at : ℕ) → end_at a at ≡ cond (eqb (number_of a) 0) (at + counted (value_of a)) at
ends_at (Ok r) at = refl
ends_at (Err e) at = rw (some_number e)

-- a line was turned where there is room for any text
module _ (to : Width) (l : List ℕ) (at : ℕ) (out : List ℕ) (room : at + most_turned ≤ length out) where
  abbrev t : Turned
  t = turned_to to l

  -- so 13 is not given
  abbrev outcome : LineOutcome
  outcome = cond (eqb t.number 0) (record { number = 0; value = count (length t.line); bytes = over_at at t.line out }) (refused_line t.number out)

  fits : turned_at t at out ≡ outcome
  unfolding turned_at written_at
  fits = by (eqb t.number 0) refl
    where
      by : (x : Bool) → eqb t.number 0 ≡ x → turned_at t at out ≡ outcome
      by true e = rw (e, le-leb (at + length t.line) (length out) (omega (arith, turned_short to l (eqb-true t.number 0 e))))
      by false e = rw e

  module _ (answer : Result Reply Refusal) {bytes : List ℕ} (turned : answered answer bytes ≡ turned_at t at out) where
    is : answered answer bytes ≡ outcome
    is = turned ∙ fits

    pub told_number : number_of answer ≡ t.number
    told_number = by (eqb t.number 0) refl
      where
        by : (x : Bool) → eqb t.number 0 ≡ x → number_of answer ≡ t.number
        by true e = ap (λ (o : LineOutcome). o.number) is ∙ rw e (sym (eqb-true t.number 0 e))
        by false e = ap (λ (o : LineOutcome). o.number) is ∙ rw e

    pub told_short : counted (value_of answer) ≤ longest_line
    told_short = by (eqb t.number 0) refl
      where
        n : counted (value_of answer) ≡ counted outcome.value
        n = ap (λ (o : LineOutcome). counted o.value) is

        by : (x : Bool) → eqb t.number 0 ≡ x → counted (value_of answer) ≤ longest_line
        by true e = omega (arith, rw e at n, turned_short to l (eqb-true t.number 0 e))
        by false e = omega (arith, rw e at n)

    -- with its end the text stands there
    pub told_text : {new : List ℕ} {behind : ℕ} → Stands bytes (end_at answer at) (end_text (number_of answer)) new behind → Stands out at (turned_text t) new behind
    told_text {new} {behind} r = by (eqb t.number 0) refl
      where
        there : Stands bytes (cond (eqb (number_of answer) 0) (at + counted (value_of answer)) at) (end_text (number_of answer)) new behind
        there = rw (← ends_at answer at) r

        by : (x : Bool) → eqb t.number 0 ≡ x → Stands out at (turned_text t) new behind
        by true e =
            let o : answered answer bytes ≡ record { number = 0; value = count (length t.line); bytes = over_at at t.line out } = is ∙ rw e in
            let n = ap (λ (o : LineOutcome). counted o.value) o in
            let b = ap (λ (o : LineOutcome). o.bytes) o in
            let v = rw (told_number, e, n, b) at there in
            rw e (record { end = v.end ∙ simp length-append (omega arith); is = v.is ∙ over_then at t.line line_feed out (omega arith) })
        by false e =
            let o : answered answer bytes ≡ refused_line t.number out = is ∙ rw e in
            rw e (rw (told_number, e, ap (λ (o : LineOutcome). o.bytes) o) at there)

-- no text is longer
pub text_short : (to : Width) (l : List ℕ) → length (turned_text (turned_to to l)) ≤ most_turned
text_short to l = by (eqb t.number 0) refl
  where
    t : Turned
    t = turned_to to l

    by : (x : Bool) → eqb t.number 0 ≡ x → length (turned_text t) ≤ most_turned
    by true e = rw e (simp length-append (omega (arith, turned_short to l (eqb-true t.number 0 e))))
    by false e = rw e (simp length-append (omega (arith, decimal_length most_digits t.number)))

-- where a line may end if it is a frame's
module _ (to : Width) (text : List ℕ) (end : ℕ) (likely : LikelyEnd (width_of (other_than to)) text end) where
  -- a frame's line ends there
  pub ends_there : ((turned_to to (take end text)).number ≡ 1 → ⊥) → end ≡ up_to text
  ends_there frame = by (line_in (width_of (other_than to)) (take end text)) refl
    where
      by : (x : Line) → line_in (width_of (other_than to)) (take end text) ≡ x → end ≡ up_to text
      by (Good f) e = end_of_frame (width_of (other_than to)) text end likely f e
      by Bad e = absurd (frame (turned_bad to (take end text) e))

  -- and where none is found the line is refused with 1, wherever it ends
  pub refused_there : (turned_to to (take end text)).number ≡ 1 → up_to text < length text → turned_text (turned_to to (take end text)) ≡ turned_text (turned_to to (take (up_to text) text))
  refused_there one h = by (line_in (width_of (other_than to)) (take (up_to text) text)) refl
    where
      by : (x : Line) → line_in (width_of (other_than to)) (take (up_to text) text) ≡ x → turned_text (turned_to to (take end text)) ≡ turned_text (turned_to to (take (up_to text) text))
      by (Good f) e = ap (λ n. turned_text (turned_to to (take n text))) (likely.found h f e)
      by Bad e = rw (one, turned_bad to (take (up_to text) text) e)
