-- The promise is the theorem.
use Rattle.rules.proofs.Order.{arrival_order}
use Rattle.rules.proofs.arrival_order.Statement.{statement}
use Rattle.rules.proofs.arrival_order.Tie as tie

returns : tie.Need-returns
returns c = arrival_order

pub arrival_order_spec : {M : Type 1} → statement M
arrival_order_spec = tie.close (tie.spec returns)
