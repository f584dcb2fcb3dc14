-- A call by value: 2 for a schedule that breaks a rule.
use mathlib.Core.Path.{◌≡◌, sym, ◌∙◌}
use mathlib.Core.Bool.{Bool, false}
use Rattle.rules.specs.declared.Refusal.TheVariants.{BrokenRule}
use Rattle.rules.specs.declared.Schedule.{Schedule}
use Rattle.rules.specs.Sound.{sound}
use Rattle.rules.specs.Calls.{Call, lent_bytes, lent_list, call}
use Rattle.calls.specs.declared.Answered.{Answered}
use Rattle.calls.specs.Answered.{outcome_of, refused_with}
use Rattle.calls.proofs.Acting.{broken}

-- a schedule that breaks a rule is refused with 2
pub breaks : {s : Schedule} {t : Bool} {r : Answered} (c : Call) → t ≡ sound s → t ≡ false → r ≡ refused_with BrokenRule s → outcome_of r (lent_bytes c) (lent_list c) ≡ call s c
breaks {s} c e f q = rw q (broken s (sym e ∙ f) c)
