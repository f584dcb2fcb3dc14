-- The upper halves decide; where they are equal, the lower ones.
use mathlib.Core.Path.{ap₂, ◌∙◌}
use Rattle.std.specs.Ordering.{nat_cmp, ordering_then}
use Rattle.rules.specs.Records.{id_number}
use Rattle.rules.proofs.IdLaws.{compared_halves}
use Rattle.rules.proofs.ids.IdOrd.cmp.Goals as goal

pub returns : goal.returns
returns c =
    c.then.ensures ∙ ap₂ ordering_then (c.cmp.ensures ∙ ap₂ nat_cmp c.upper.ensures c.upper-2.ensures) (c.cmp-2.ensures ∙ ap₂ nat_cmp c.lower.ensures c.lower-2.ensures)
    ∙ compared_halves (id_number c.args.self.now) (id_number c.args.other.now)
