-- The promise is the theorem: the conversation was evaluated.
use Rattle.rules.proofs.Witnessed.{text_tables}
use Rattle.rules.proofs.texts_printed.Statement.{statement}
use Rattle.rules.proofs.texts_printed.Tie as tie

returns : tie.Need-returns
returns c = text_tables

pub texts_printed_spec : {M : Type 1} → statement M
texts_printed_spec = tie.close (tie.spec returns)
