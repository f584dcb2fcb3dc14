-- The answer of the call by value, as one number.
use mathlib.Core.Path.{ap, ◌∙◌}
use native.Mathlib.Omega.{arith}
use Rattle.rules.specs.Calls.{counted}
use Rattle.rules.specs.Converted.{face_line}
use Rattle.convert.proofs.Shapes.{few_lengthened}
use Rattle.hadulmir.specs.Outcomes.{returned_for}
use Rattle.hadulmir.proofs.hadulmir_lengthen.Goals as goal

pub returned-requires : goal.returned-requires
returned-requires c =
    let a = c.args in
    omega (arith, ap (λ o. counted o.value) c.lengthen.ensures, few_lengthened a.line.now a.out.now)

pub returns : goal.returns
unfolding returned_for
returns c =
    let line = c.lengthen in
    ap (λ r. (r, line.new.out)) c.returned.ensures ∙ ap face_line line.ensures
