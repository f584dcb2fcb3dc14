-- One number behind the other.
use mathlib.Core.List.{append_assoc}
use native.Mathlib.Omega.{arith}
use Rattle.text.proofs.Printing.{put_then, number_within, id_within}
use Rattle.text.proofs.writing.Text.three.Goals as goal

pub id_text-requires : goal.id_text-requires
id_text-requires c = omega (arith, number_within _ _ c.number.ensures)

pub number-requires-2 : goal.number-requires-2
number-requires-2 c =
    omega (arith, number_within _ _ c.number.ensures, id_within _ _ c.id_text.ensures)

pub returns : goal.returns
returns c =
    simp append_assoc at (put_then (omega arith) (put_then (omega arith) c.number.ensures c.id_text.ensures) c.number-2.ensures)
