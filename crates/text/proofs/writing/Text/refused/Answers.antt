-- The word and then the number.
use native.Mathlib.Omega.{arith}
use Rattle.text.proofs.Printing.{put_then}
use Rattle.text.proofs.writing.Text.refused.Goals as goal

pub returns : goal.returns
returns c =
    put_then (omega arith) c.put.ensures c.number.ensures
