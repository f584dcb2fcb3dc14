-- The control with its word, and a number where there is one.
use mathlib.Core.List.{append_assoc}
use native.Mathlib.Omega.{arith}
use Rattle.text.proofs.Printing.{put_then, number_within}
use Rattle.text.proofs.writing.Text.ask_text.Goals as goal

pub id_text-requires : goal.id_text-requires
id_text-requires c = omega (arith, number_within _ _ c.control_text.ensures)

pub number-requires : goal.number-requires
number-requires c = omega (arith, number_within _ _ c.control_text-in-Default.ensures)

pub returns-in-Holder : goal.returns-in-Holder
returns-in-Holder c =
    rw c.in-Holder.is (simp append_assoc at (put_then (omega arith) c.control_text.ensures c.id_text.ensures))

pub returns-in-Default : goal.returns-in-Default
returns-in-Default c =
    rw c.in-Default.is (simp append_assoc at (put_then (omega arith) c.control_text-in-Default.ensures c.number.ensures))
