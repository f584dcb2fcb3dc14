-- The loop has passed over the first events, and none of them governs.
use mathlib.Core.Path.{◌≡◌}
use lib.ListN.{drop}
use Rattle.rules.specs.Calls.{reply_value, holder_in}
use Rattle.calls.proofs.programs.holder_or.Given as goal

abbrev pub invariant-loop-h : goal.invariant-loop-h
invariant-loop-h l = holder_in l.control l.events (reply_value l.other) ≡ holder_in l.control (drop l.h-index l.events) (reply_value l.other)
