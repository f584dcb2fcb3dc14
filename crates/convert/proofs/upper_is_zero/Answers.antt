-- The digits behind the kind are compared with zeros.
use mathlib.Core.Path.{◌≡◌, ◌∙◌}
use Prim.Native.Nat.{ℕ, ◌+◌, ◌-◌, ◌≤◌}
use mathlib.Core.Bool.{Bool}
use mathlib.Core.List.{List}
use native.Mathlib.Omega.{arith}
use lib.Dec.{eqb}
use lib.ListN.{length, take, drop, replicate, length-drop}
use lib.Pointwise.{pointwise}
use Rattle.rules.specs.Converted.{kind_digits, half_digits}
use Rattle.frame.proofs.Ends.{rest_of}
use Rattle.convert.specs.Turns.{upper_zero}
use Rattle.convert.proofs.Written.{begins}
use Rattle.convert.proofs.upper_is_zero.Goals as goal

-- whether the digits of an id begin with zeros
begins_zero : (l : List ℕ) {zero : Bool} → kind_digits + half_digits ≤ length l
    → zero ≡ pointwise eqb (replicate half_digits 48) (take half_digits (take (length l - kind_digits) (drop kind_digits l))) → zero ≡ upper_zero l
unfolding upper_zero
begins_zero l h e = rw (rest_of l kind_digits) at e ∙ begins half_digits (drop kind_digits l) (omega (arith, length-drop kind_digits l))

pub returns : goal.returns
returns c = begins_zero c.args.line.now c.requires c.starts_with.ensures.value
