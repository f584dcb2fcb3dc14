-- The number and then the word.
use mathlib.Core.List.{append_assoc}
use native.Mathlib.Omega.{arith}
use Rattle.text.proofs.Printing.{put_then, number_within}
use Rattle.text.proofs.writing.Text.control_text.Goals as goal

pub put-requires : goal.put-requires
put-requires c = omega (arith, number_within _ _ c.number.ensures)

pub returns : goal.returns
returns c =
    simp append_assoc at (put_then (omega arith) c.number.ensures c.put.ensures)
