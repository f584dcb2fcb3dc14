-- A frame decoded before a line feed is the line; otherwise the search finds where the line ends.
use mathlib.Core.Path.{◌≡◌, sym, ap, ◌∙◌}
use Prim.Native.Nat.{ℕ, ◌+◌, ◌-◌}
use mathlib.Core.List.{List}
use native.Mathlib.Omega.{arith}
use lib.ListN.{length, take, drop, length-take, length-drop}
use Rattle.rules.specs.Records.{id_size}
use Rattle.frame.specs.Ends.{up_to, LikelyEnd}
use Rattle.frame.proofs.Ends.{rest_of, end_within, end_of_frame}
use Rattle.calls.proofs.lines.next_line.Goals as goal

pub overflow_add-likely : goal.overflow_add-likely
overflow_add-likely c = omega (arith, c.likely_end.ensures.found.within, length-take {A = ℕ}, length-drop {A = ℕ}, c.requires, c.well_formed)

pub slice_bounds-decode-end : goal.slice_bounds-decode-end
slice_bounds-decode-end c = omega (arith, c.likely_end.ensures.found.within, length-take {A = ℕ}, length-drop {A = ℕ}, c.requires)

pub returns-in-Good : goal.returns-in-Good
returns-in-Good c =
    let a = c.args in
    let n = c.likely_end.result in
    let rest = drop a.from a.text.now in
    let likely : LikelyEnd id_size rest n = rw (rest_of a.text.now a.from) at c.likely_end.ensures.found in
    let same : a.from + n - a.from ≡ n = omega arith in
    let line = c.decode-decoded.ensures in
    record { end = ap (◌+◌ a.from) (end_of_frame id_size rest n likely _ (rw same at (sym line ∙ c.in-Good.is))); line = line }

-- where the search ends
ends : (from : ℕ) (text : List ℕ) {n : ℕ} → n ≡ up_to (take (length text - from) (drop from text)) → from + n ≡ from + up_to (drop from text)
ends from text e = ap (◌+◌ from) (e ∙ ap up_to (rest_of text from))

pub overflow_add-end : goal.overflow_add-end
overflow_add-end c =
    let a = c.args in
    omega (arith, ends a.from a.text.now c.line_end.ensures, end_within a.text.now a.from c.requires, c.well_formed)

pub slice_bounds-decode-end-2 : goal.slice_bounds-decode-end-2
slice_bounds-decode-end-2 c =
    let a = c.args in
    omega (arith, ends a.from a.text.now c.line_end.ensures, end_within a.text.now a.from c.requires)

pub returns : goal.returns
returns c = record { end = ends c.args.from c.args.text.now c.line_end.ensures; line = c.decode-line.ensures }
