-- The bytes so far are all digits if `all` says so, and the others are still to be looked at.
use mathlib.Core.Path.{◌≡◌}
use mathlib.Core.Bool.{◌&&◌}
use lib.ListN.{drop}
use Rattle.frame.specs.Decoded.{all_digits}
use Rattle.frame.proofs.digits.all_digits.Given as goal

abbrev pub invariant-loop-c : goal.invariant-loop-c
invariant-loop-c l = all_digits l.line ≡ (l.all && all_digits (drop l.c-index l.line))
