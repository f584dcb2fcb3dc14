-- The kind and what stands behind the upper half, if that is zero.
use mathlib.Core.Path.{◌≡◌, sym, ◌∙◌}
use mathlib.Core.Bool.{true}
use Prim.Native.Nat.{◌+◌}
use Rattle.rules.specs.Converted.{kind_digits, half_digits, narrowed}
use Rattle.frame.proofs.Ends.{rest_of}
use Rattle.convert.specs.Turns.{upper_zero}
use Rattle.convert.proofs.narrow.Goals as goal

pub returns-then-not-upper_is_zero : goal.returns-then-not-upper_is_zero
returns-then-not-upper_is_zero c = rw (← c.upper_is_zero.ensures, c.if-not-upper_is_zero.true)

pub returns : goal.returns
unfolding narrowed
returns c =
    let line = c.args.line.now in
    let zero : upper_zero line ≡ true = sym c.upper_is_zero.ensures ∙ c.if-not-upper_is_zero.false in
    rw zero (rw (rest_of line (kind_digits + half_digits)) at c.write.ensures)
