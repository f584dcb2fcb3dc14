-- Turned or refused as a frame, the line ends where it was likely to; else it is refused with 1, and the search finds its end.
use mathlib.Core.Path.{◌≡◌, refl, sym, ap, ◌∙◌}
use Prim.Native.Nat.{ℕ, ◌<◌, ◌≤◌}
use mathlib.Core.List.{List}
use native.Mathlib.Omega.{arith}
use borrow.Author.Tests.{ltb-true, ltb-false, eqb-true, eqb-false}
use borrow.Table.Steps.{cases}
use lib.Dec.{ltb}
use lib.ListN.{length, take}
use lib.Seq.{take_at, length-take-le}
use Rattle.std.specs.Prelude.{Option, MatchOption}
use Rattle.std.specs.Bool.{then_some}
use Rattle.rules.specs.Calls.{number_of}
use Rattle.rules.specs.Converted.{turned_text}
use Rattle.frame.specs.declared.Width.{Width}
use Rattle.frame.specs.Decoded.{width_of}
use Rattle.frame.specs.Ends.{up_to, LikelyEnd}
use Rattle.convert.specs.Turns.{other_than, turned_to}
use Rattle.text.specs.Texts.{Stands}
use Rattle.converter.specs.declared.Told.{Told}
use Rattle.converter.specs.Pieces.{Tells, Unended}
use Rattle.converter.proofs.Telling.{told_number, told_short, told_text, ends_there, refused_there}
use Rattle.converter.proofs.tell.Goals as goal
use Rattle.converter.proofs.tell.Goals.{then-is_no_frame, else-is_no_frame}

-- where the line may end
may_end : (to : Width) (text : List ℕ) {w : Width} {end : ℕ} → w ≡ other_than to → LikelyEnd (width_of w) text end → LikelyEnd (width_of (other_than to)) text end
may_end to text p h = rw p at h

-- it ends here, if before the end of the text
ends_at : (to : Width) (text out : List ℕ) (at : ℕ) {said new : List ℕ} {behind : ℕ} (end : ℕ) {r : Option Told} → end ≡ up_to text → at ≤ length out → Stands out at said new behind
    → (end < length text → said ≡ turned_text (turned_to to (take end text))) → r ≡ then_some (ltb end (length text)) (record { end = end; behind = behind })
    → MatchOption r (Unended text out at new) (Tells to text out at new)
ends_at to text out at end e h s is q =
    cases (ltb end (length text))
    (λ b. rw (q, b) (record { within = ltb-true end (length text) b; end = e; stands = rw (is (ltb-true end (length text) b)) at s }))
    (λ b. rw (q, b) (record { past = omega (arith, e, ltb-false end (length text) b); front = rw s.is (take_at (take at out) _ at (length-take-le at out h)) }))

pub slice_bounds-turn-end : goal.slice_bounds-turn-end
slice_bounds-turn-end c =
    sym (length-take-le c.likely_end-likely.result c.args.lines.now (may_end c.args.to c.args.lines.now c.other_than.ensures c.likely_end-likely.ensures.found).within)

pub end_text-behind-requires : goal.end_text-behind-requires
end_text-behind-requires c =
    let a = c.args in
    let short = told_short a.to _ a.at a.out.now c.requires c.turn-turned.result c.turn-turned.ensures in
    record { short = short; room = omega (arith, c.requires) }

pub returns : goal.returns
returns c =
    let a = c.args in
    let lines = a.lines.now in
    let may = may_end a.to lines c.other_than.ensures c.likely_end-likely.ensures.found in
    let number : number_of c.turn-turned.result ≡ (turned_to a.to (take c.likely_end-likely.result lines)).number =
    told_number a.to _ a.at a.out.now c.requires c.turn-turned.result c.turn-turned.ensures in
    let stands = told_text a.to _ a.at a.out.now c.requires c.turn-turned.result c.turn-turned.ensures c.end_text-behind.ensures in
    let there : a.at ≤ length a.out.now = omega (arith, c.requires) in
    elim c.if-is_no_frame.branch [
      | then-is_no_frame w ↦
          let ends : w.line_end-end.result ≡ up_to lines = w.line_end-end.ensures in
          let one = sym number ∙ eqb-true (number_of c.turn-turned.result) 1 (sym c.is_no_frame.ensures ∙ w.if-is_no_frame.true) in
          ends_at a.to lines a.out.now a.at w.line_end-end.result ends there stands
          (λ h. refused_there a.to lines c.likely_end-likely.result may one (omega (arith, h, ends)) ∙ ap (λ k. turned_text (turned_to a.to (take k lines))) (sym ends))
          (rw w.end-is at c.then_some.ensures)
      | else-is_no_frame w ↦
          let end = ends_there a.to lines c.likely_end-likely.result may (λ e. eqb-false (number_of c.turn-turned.result) 1 (sym c.is_no_frame.ensures ∙ w.if-is_no_frame.false) (number ∙ e)) in
          ends_at a.to lines a.out.now a.at c.likely_end-likely.result end there stands (λ h. refl) (rw w.end-is at c.then_some.ensures)
    ]
