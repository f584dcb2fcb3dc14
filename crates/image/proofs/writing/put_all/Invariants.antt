-- The loop has written the first i.
use mathlib.Core.Path.{◌≡◌}
use lib.ListN.{take}
use Rattle.rules.specs.Lists.{over_at}
use Rattle.rules.specs.Bytes.{flat}
use Rattle.image.proofs.writing.put_all.Given as goal

abbrev pub invariant-loop-i : goal.invariant-loop-i
invariant-loop-i g l = l.out ≡ over_at l.at (flat g.P.Part.bytes (take l.i l.parts)) l.initial.out
