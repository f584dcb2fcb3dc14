use native.Mathlib.Omega.{arith}
use Rattle.rules.specs.Printed.{rows_text}
use Rattle.text.proofs.Printing.{put_none, rows_length, rows_next}
use Rattle.text.proofs.writing.Text.rows_text.Goals as goal

pub loop-i-init : goal.loop-i-init
unfolding rows_text
loop-i-init c = put_none

pub row_text-requires : goal.row_text-requires
row_text-requires c =
    let l = c.loop-i in
    let short = rows_length c.args.rows.now l.i 0 in
    record { there = omega arith; room = omega (arith, short) }

pub loop-i-preserved : goal.loop-i-preserved
loop-i-preserved c = rows_next _ c.loop-i.i (omega arith) c.loop-i.invariant c.row_text.ensures
