-- The loop has written the first i rows.
use Rattle.rules.specs.Printed.{rows_text}
use Rattle.text.specs.Texts.{Adds}
use Rattle.text.proofs.writing.Text.rows_text.Given as goal

abbrev pub invariant-loop-i : goal.invariant-loop-i
invariant-loop-i l = Adds l.initial.self (rows_text l.i 0 l.rows) l.self
