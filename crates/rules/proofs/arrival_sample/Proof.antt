-- The promise is the theorem.
use Rattle.rules.proofs.Sampled.{sample}
use Rattle.rules.proofs.arrival_sample.Statement.{statement}
use Rattle.rules.proofs.arrival_sample.Tie as tie

returns : tie.Need-returns
returns c = sample

pub arrival_sample_spec : {M : Type 1} → statement M
arrival_sample_spec = tie.close (tie.spec returns)
