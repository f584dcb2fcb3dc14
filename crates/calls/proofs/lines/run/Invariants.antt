-- Line by line: what is known before the next one is `Running`.
use mathlib.Core.Path.{◌≡◌}
use Prim.Native.Nat.{◌-◌}
use lib.ListN.{length}
use Rattle.rules.specs.Bytes.{rows_size}
use Rattle.calls.proofs.Running.{Running}
use Rattle.calls.proofs.lines.run.Given as goal

abbrev pub invariant-loop-from : goal.invariant-loop-from
invariant-loop-from l =
    Running l.initial.s.schedule l.lines l.initial.out l.s.schedule l.from l.at l.out × (length l.rows ≡ rows_size)

abbrev pub decreases-loop-from : goal.decreases-loop-from
decreases-loop-from l = length l.lines - l.from
