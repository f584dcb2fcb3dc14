-- The three numbers are those of the row.
use mathlib.Core.Path.{ap, ◌∙◌}
use Prim.Native.Nat.{◌+◌}
use native.Mathlib.Omega.{arith}
use Rattle.rules.specs.Records.{id_size, id_number}
use Rattle.rules.proofs.IdLaws.{number_id}
use Rattle.octets.proofs.Fits.{get_inside, id_inside}
use Rattle.text.proofs.Printing.{read_one}
use Rattle.text.proofs.writing.Text.row_text.Goals as goal

pub returns : goal.returns
returns c =
    let a = c.args in
    let l = a.rows.now in
    let time = c.get-time.ensures ∙ get_inside 8 a.from l (omega arith) (omega arith) in
    let id = ap id_number (c.get_id-id.ensures ∙ id_inside (a.from + 8) l (omega arith)) ∙ number_id _ in
    rw (← time, ← id, read_one (a.from + (8 + id_size)) l) c.three.ensures
