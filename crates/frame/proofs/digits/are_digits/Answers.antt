-- A part that is as long as the line is the line.
use mathlib.Core.Path.{sym, ap, ◌∙◌}
use native.Mathlib.Omega.{arith}
use lib.Seq.{length-take-le, take_all}
use Rattle.frame.specs.Decoded.{all_digits}
use Rattle.frame.proofs.digits.are_digits.Goals as goal

pub slice_bounds-all_digits-end : goal.slice_bounds-all_digits-end
slice_bounds-all_digits-end c = sym (length-take-le 68 c.args.line.now (omega arith))

pub returns-then-n-eq-SHORT_EVENT : goal.returns-then-n-eq-SHORT_EVENT
returns-then-n-eq-SHORT_EVENT c = c.all_digits.ensures ∙ ap all_digits (take_all 68 c.args.line.now (omega arith))
