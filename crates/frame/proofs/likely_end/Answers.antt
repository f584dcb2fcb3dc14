-- The line feed is tested for; where there is none, nothing was found.
use mathlib.Core.Path.{◌≡◌, ap}
use Prim.Native.Nat.{ℕ, ◌*◌}
use mathlib.Core.List.{List}
use mathlib.Core.Bool.{and-false}
use native.Mathlib.Omega.{arith}
use borrow.Author.Tests.{eq-eqb, ne_eqb, lt-ltb, le-ltb}
use lib.ListN.{length, get_or}
use Rattle.rules.specs.Frames.{unhex}
use Rattle.frame.specs.Decoded.{width_of, size_in}
use Rattle.frame.specs.Ends.{likely_end}
use Rattle.frame.specs.declared.Width.{Width}
use Rattle.frame.proofs.ByKind.{width_size}
use Rattle.frame.proofs.Ends.{likely_is}
use Rattle.frame.proofs.likely_end.Goals.{else-end-text-via-then-end-text+else-text-end-eq10, else-end-text-via-else-end-text}
use Rattle.frame.proofs.likely_end.Goals as goal

pub overflow_mul-end : goal.overflow_mul-end
overflow_mul-end c = omega (arith, width_size c.args.width c.first.result, c.size_of-end.ensures)

-- what is looked for: as many bytes as the first pair says
looked : (width : Width) (text : List ℕ) {size kind : ℕ} → size ≡ size_in (width_of width) kind → kind ≡ get_or (unhex text) 0 0
    → 2 * size_in (width_of width) (get_or (unhex text) 0 0) ≡ 2 * size
looked width text size first = omega (arith, size, ap (size_in (width_of width)) first)

pub returns-then-text-end-eq10 : goal.returns-then-text-end-eq10
unfolding likely_end
returns-then-text-end-eq10 c =
    let a = c.args in
    let text = a.text.now in
    let end = 2 * c.size_of-end.result in
    let is : end ≡ likely_end (width_of a.width) text =
    rw (looked a.width text c.size_of-end.ensures c.first.ensures, lt-ltb end (length text) (omega arith), eq-eqb (get_or text end 0) 10 c.if-text-end-eq10.true) in
    record { found = likely_is _ text is; is = is }

pub returns : goal.returns
unfolding likely_end
returns c =
    let a = c.args in
    let text = a.text.now in
    let end = 2 * c.size_of-end.result in
    let is : 0 ≡ likely_end (width_of a.width) text =
    rw (looked a.width text c.size_of-end.ensures c.first.ensures)
    (elim c.else-end-text.branch [
      | else-end-text-via-then-end-text+else-text-end-eq10 w ↦ rw (ne_eqb (get_or text end 0) 10 w.if-text-end-eq10.false, and-false)
      | else-end-text-via-else-end-text w ↦ rw (le-ltb end (length text) w.if-end-text.false)
    ]) in
    record { found = likely_is _ text is; is = is }
