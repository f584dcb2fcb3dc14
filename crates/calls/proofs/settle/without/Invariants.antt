-- The controls that both have are cut one by one.
use Rattle.calls.proofs.Sets.{Cutting}
use Rattle.calls.proofs.settle.without.Given as goal

abbrev pub invariant-loop-control : goal.invariant-loop-control
invariant-loop-control l = Cutting l.mask l.other l.left l.control-iterator.rest
