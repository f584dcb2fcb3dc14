-- A line of another length than its kind asks for is no frame, and neither is one with a byte that is no digit; the kind of any other tells whether it has an id.
use mathlib.Core.Path.{◌≡◌, sym, ap, ◌∙◌}
use Prim.Native.Nat.{ℕ, ◌*◌}
use mathlib.Core.Bool.{true}
use mathlib.Core.List.{List}
use native.Mathlib.Omega.{arith}
use lib.ListN.{length, get_or}
use Rattle.rules.specs.Frames.{unhex, line_in}
use Rattle.frame.specs.Decoded.{width_of, shape_of, size_in, frame_as_in, all_digits}
use Rattle.frame.proofs.Pairs.{paired_all}
use Rattle.frame.proofs.ByKind.{width_size, line_as, other_length, no_size, with_id, without_id}
use Rattle.frame.proofs.shape_of.Goals as goal

-- a line of digits that is as long as its kind asks for is a frame of that kind
of_kind : (w : ℕ) (line : List ℕ) {kind size : ℕ} → kind ≡ get_or (unhex line) 0 0 → size ≡ size_in w kind → 2 * size ≡ length line → all_digits line ≡ true
    → line_in w line ≡ frame_as_in w kind (unhex line)
of_kind w line k s long digits =
    line_as w line (paired_all _ line (sym long) ∙ digits) (omega (arith, long, s, ap (size_in w) k))
    ∙ ap (λ k. frame_as_in w k (unhex line)) (sym k)

pub returns-then-size-eq0 : goal.returns-then-size-eq0
returns-then-size-eq0 c =
    let a = c.args in
    let w = width_of a.width in
    let none : c.size_of-size.result ≡ 0 = c.if-size-eq0.true in
    sym (ap shape_of (no_size w a.line.now (ap (size_in w) (sym c.first-kind.ensures) ∙ sym c.size_of-size.ensures ∙ none)))

pub overflow_mul-size : goal.overflow_mul-size
overflow_mul-size c =
    omega (arith, width_size c.args.width c.first-kind.result, c.size_of-size.ensures)

pub returns-then-size-line : goal.returns-then-size-line
returns-then-size-line c =
    let a = c.args in
    let w = width_of a.width in
    sym (ap shape_of (other_length w a.line.now (λ e. c.if-size-line.true (omega (arith, c.size_of-size.ensures, ap (size_in w) c.first-kind.ensures)))))

pub returns-then-not-are_digits : goal.returns-then-not-are_digits
unfolding line_in
returns-then-not-are_digits c =
    let a = c.args in
    rw (paired_all _ a.line.now (sym c.if-size-line.false), ← c.are_digits.ensures, c.if-not-are_digits.true)

pub returns-in-3 : goal.returns-in-3
returns-in-3 c =
    let is = of_kind _ _ c.first-kind.ensures c.size_of-size.ensures c.if-size-line.false (sym c.are_digits.ensures ∙ c.if-not-are_digits.false) in
    sym (ap shape_of is ∙ without_id _ _ _ (omega arith) (omega arith))

pub returns-in_default : goal.returns-in_default
returns-in_default c =
    let is = of_kind _ _ c.first-kind.ensures c.size_of-size.ensures c.if-size-line.false (sym c.are_digits.ensures ∙ c.if-not-are_digits.false) in
    sym (ap shape_of is ∙ with_id _ _ _ (λ e. c.if-size-eq0.false (c.size_of-size.ensures ∙ e)) (λ h. omega arith))

pub returns-in_default-2 : goal.returns-in_default-2
returns-in_default-2 c =
    let is = of_kind _ _ c.first-kind.ensures c.size_of-size.ensures c.if-size-line.false (sym c.are_digits.ensures ∙ c.if-not-are_digits.false) in
    sym (ap shape_of is ∙ with_id _ _ _ (λ e. c.if-size-eq0.false (c.size_of-size.ensures ∙ e)) (λ h. omega arith))
