-- Long division by 10 ^ 8 of a number of two halves: what is left of one place goes before the next.
use mathlib.Core.Path.{◌≡◌, refl}
use Prim.Native.Nat.{ℕ, ◌+◌, ◌^◌, ◌<◌, ◌≤◌}
use mathlib.Core.Bool.{Bool, true, false, ◌&&◌}
use native.Mathlib.Omega.{arith}
use borrow.Author.Tests.{eqb-true, eqb-false, ltb-true, ltb-false}
use lib.Dec.{eqb, ltb}
use lib.ListN.{length}
use Rattle.rules.proofs.Tests.{each_true}
use Rattle.rules.specs.Records.{half_limit, halves}
use Rattle.rules.specs.Printed.{decimal, id_digits}
use Rattle.text.specs.declared.writing.Divided.{Divided}
use Rattle.text.specs.declared.writing.Text.{Text}
use Rattle.text.specs.Texts.{Adds, padded, Divides}
use Rattle.text.proofs.Digits.{enough, decimal_more, put_front}

-- whether a number of two halves has eight digits at the most
module _ (high low : ℕ) where
  abbrev few : Bool
  few = eqb high 0 && ltb low (10 ^ 8)

  pub few_true : few ≡ true → (halves high low ≡ low) × (low < 10 ^ 8)
  few_true t = let both = each_true (eqb high 0) (ltb low (10 ^ 8)) t in (omega (arith, eqb-true high 0 both.0), ltb-true low (10 ^ 8) both.1)

  pub few_false : few ≡ false → 10 ^ 8 ≤ halves high low
  few_false = by (eqb high 0) refl
    where
      by : (b : Bool) → eqb high 0 ≡ b → (b && ltb low (10 ^ 8)) ≡ false → 10 ^ 8 ≤ halves high low
      by true p f = omega (arith, ltb-false low (10 ^ 8) f)
      by false p f = omega (arith, eqb-false high 0 p)

module _ {high low : ℕ} {d : Divided} (e : Divides high low d) where
  pub front_falls : 10 ^ 8 ≤ halves high low → halves d.high d.low < halves high low
  front_falls h = omega (arith, e.front, h)

  -- the front has at most 31 digits
  pub front_digits : {t u : Text} → high < half_limit → d.low < half_limit → Adds t (id_digits (halves d.high d.low)) u → Adds t (decimal 31 (halves d.high d.low)) u
  front_digits h k p = rw (← enough 30 8 (halves d.high d.low) (omega (arith, e.upper, h, k))) p

  -- the digits of the front and then those of the rest
  pub put_rest : (m : ℕ) {t u v : Text} → 10 ^ 8 ≤ halves high low → t.at ≤ length t.out.now → Adds t (decimal m (halves d.high d.low)) u → Adds u (padded 8 d.rest) v
      → Adds t (decimal (m + 8) (halves high low)) v
  put_rest m s h p q = put_front decimal 10 decimal_more m 8 (halves high low) (omega (arith, s)) h (rw e.front at p) (rw e.rest at q)
