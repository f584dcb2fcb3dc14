-- What the enum of a primacy says.
use mathlib.Core.Path.{◌≡◌, refl, sym, ap, ◌∙◌}
use mathlib.Core.Bool.{Bool, true, false, cond}
use Prim.Native.Nat.{ℕ}
use denote.Enum.Bare.{sameb}
use Rattle.rules.specs.contracts.Primacy.{the_type}
use Rattle.rules.specs.declared.Primacy.{Primacy}
use Rattle.rules.specs.declared.Primacy.TheVariants.{Usable, Reserved}
use Rattle.rules.specs.Records.{usable, primacy_is}

tested : (b : Bool) → sameb the_type (cond b Usable Reserved) Usable ≡ b
tested true = refl
tested false = refl

-- a primacy is that of the usable ones if it may be used
pub told : (n : ℕ) → sameb the_type (primacy_is n) Usable ≡ usable n
told n = tested (usable n)

abbrev is_usable : Primacy → Bool
is_usable Usable = true
is_usable Reserved = false

as_tested : (b : Bool) → is_usable (cond b Usable Reserved) ≡ b
as_tested true = refl
as_tested false = refl

-- the arm that a match on a primacy took is the test's
pub arm : (r a : Primacy) (n : ℕ) → r ≡ a → r ≡ primacy_is n → usable n ≡ is_usable a
arm r a n e d = sym (ap is_usable (sym e ∙ d) ∙ as_tested (usable n))
