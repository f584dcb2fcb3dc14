-- The promise is the theorem: the table was evaluated.
use Rattle.rules.proofs.Evaluated.{bench_marks}
use Rattle.rules.proofs.bench_marks.Statement.{statement}
use Rattle.rules.proofs.bench_marks.Tie as tie

returns : tie.Need-returns
returns c = bench_marks

pub bench_marks_spec : {M : Type 1} → statement M
bench_marks_spec = tie.close (tie.spec returns)
