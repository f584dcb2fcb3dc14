-- What it replied; nothing for 0.
use mathlib.Core.Path.{◌∙◌, ap}
use borrow.Author.Tests.{eq-eqb}
use Rattle.rules.specs.Calls.{value_of}
use Rattle.text.specs.Texts.{number_told}
use Rattle.text.proofs.Printing.{put_none, nothing_told}
use Rattle.text.proofs.writing.Text.told.Goals as goal

pub returns-in-Ok : goal.returns-in-Ok
returns-in-Ok c o n v b = rw (eq-eqb o.number 0 (n ∙ ap number_told c.in-Ok.is)) (c.replied.ensures o (v ∙ ap value_of c.in-Ok.is) b)

pub returns-else-n-ne0 : goal.returns-else-n-ne0
returns-else-n-ne0 c o n v b =
    let a = c.args in
    rw (eq-eqb o.number 0 (n ∙ ap number_told c.in-Err.is ∙ c.if-n-ne0.false), nothing_told a.clock a.f o (v ∙ ap value_of c.in-Err.is)) put_none
