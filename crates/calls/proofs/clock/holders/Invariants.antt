-- The loop has looked at the first i events.
use Rattle.calls.specs.Sets.{Holders}
use Rattle.calls.proofs.clock.holders.Given as goal

abbrev pub invariant-loop-i : goal.invariant-loop-i
invariant-loop-i l = Holders l.i l.slots l.set
