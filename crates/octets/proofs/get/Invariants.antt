-- The loop has read the bytes before this one.
use mathlib.Core.Path.{◌≡◌}
use Rattle.rules.specs.Bytes.{read}
use Rattle.octets.proofs.get.Given as goal

abbrev pub invariant-loop-byte : goal.invariant-loop-byte
invariant-loop-byte l = l.x ≡ read l.byte-index l.at l.b
