-- The laws of ids: an id whose halves fit is its number, and a number is that of its id. Two halves are one number, and are compared as one.
use mathlib.Core.Path.{◌≡◌, refl, sym, ap, ◌∙◌}
use mathlib.Core.Logic.{◌↔◌, ◌⊎◌, inl, inr}
use Prim.Native.Nat.{ℕ, ◌+◌, ◌*◌, ◌/◌, ◌%◌, ◌<◌, ◌≤◌}
use mathlib.Core.Bool.{Bool, true, false, ◌&&◌, ◌||◌}
use native.Mathlib.Omega.{arith}
use native.Mathlib.Nat.{suc-mul, mul-le-mul_right, div-lt_iff_lt-mul, mod-lt}
use lib.Dec.{eqb, ltb}
use Rattle.std.specs.Ordering.{nat_cmp, ordering_then, is_lt}
use Rattle.std.proofs.lemmas.Bool.Decides.{nat_tests}
use borrow.Author.Tests.{ltb-true, ltb-false, eqb-true, eqb-false, lt-ltb, le-ltb, eq-eqb, ne_eqb}
use Rattle.rules.specs.declared.Id.{Id}
use Rattle.rules.specs.Records.{half_limit, id_limit, halves, id_number, id_from, IdFits}

-- the halves of two halves
pub upper_half : (high low : ℕ) → low < half_limit → halves high low / half_limit ≡ high
upper_half high low h = omega arith

pub lower_half : (high low : ℕ) → low < half_limit → halves high low % half_limit ≡ low
lower_half high low h = omega arith

pub number_id : (n : ℕ) → id_number (id_from n) ≡ n
unfolding id_number id_from
number_id n = omega arith

pub id_number_lem : (i : Id) → IdFits i → id_from (id_number i) ≡ i
unfolding id_number id_from
id_number_lem i f = λ k. record { high = upper_half i.high i.low f.1 k; low = lower_half i.high i.low f.1 k }

pub same_id : (a b : Id) → IdFits a → IdFits b → id_number a ≡ id_number b → a ≡ b
same_id a b f g e = sym (id_number_lem a f) ∙ ap id_from e ∙ id_number_lem b g

-- two halves that fit are below the square
square : (k high low : ℕ) → high < k → low < k → high * k + low < k * k
square k high low f g = omega (arith, suc-mul high k, mul-le-mul_right k f)

pub id_below : (i : Id) → IdFits i → id_number i < id_limit
unfolding id_number
id_below i f = square half_limit i.high i.low f.0 f.1

pub from_fits : (n : ℕ) → n < id_limit → IdFits (id_from n)
unfolding id_from
from_fits n h = ((div-lt_iff_lt-mul {k = half_limit} {x = n} {y = half_limit} (omega arith)).1 h, mod-lt n (omega arith))

-- id 0
pub zero_halves : record { high = 0; low = 0 } ≡ id_from 0
unfolding id_from
zero_halves = refl

pub zero_number : (i : Id) → id_number i ≡ 0 → i ≡ id_from 0
unfolding id_number id_from
zero_number i e = λ k. record { high = (let z : i.high ≡ 0 = omega (arith, e) in z) k; low = (let z : i.low ≡ 0 = omega (arith, e) in z) k }

-- Two halves beside two others, low halves that fit: compared as the numbers that they are.
module _ (high low high' low' : ℕ) (f : low < half_limit) (g : low' < half_limit) where
  pub equal_halves : (eqb low low' && eqb high high') ≡ eqb (halves high low) (halves high' low')
  equal_halves = by (eqb low low') (eqb high high') refl refl
    where
      by : (l h : Bool) → eqb low low' ≡ l → eqb high high' ≡ h → (l && h) ≡ eqb (halves high low) (halves high' low')
      by true true p q = sym (eq-eqb (halves high low) (halves high' low') (omega (arith, eqb-true low low' p, eqb-true high high' q)))
      by true false p q = sym (ne_eqb (halves high low) (halves high' low') (λ e. eqb-false high high' q (omega (arith, e))))
      by false h p q = sym (ne_eqb (halves high low) (halves high' low') (λ e. eqb-false low low' p (omega (arith, e))))

  pub below_halves : (ltb high high' || (eqb high high' && ltb low low')) ≡ ltb (halves high low) (halves high' low')
  below_halves = by (ltb high high') (eqb high high') (ltb low low') refl refl refl
    where
      by : (a b c : Bool) → ltb high high' ≡ a → eqb high high' ≡ b → ltb low low' ≡ c → (a || (b && c)) ≡ ltb (halves high low) (halves high' low')
      by true b c p q r = sym (lt-ltb (halves high low) (halves high' low') (omega (arith, ltb-true high high' p)))
      by false true true p q r = sym (lt-ltb (halves high low) (halves high' low') (omega (arith, eqb-true high high' q, ltb-true low low' r)))
      by false true false p q r = sym (le-ltb (halves high low) (halves high' low') (omega (arith, eqb-true high high' q, ltb-false low low' r)))
      by false false c p q r = sym (le-ltb (halves high low) (halves high' low') (omega (arith, ltb-false high high' p, eqb-false high high' q)))

-- two numbers in the order of their halves: the upper ones decide, and where they are equal the lower ones
pub compared_halves : (a b : ℕ) → ordering_then (nat_cmp (a / half_limit) (b / half_limit)) (nat_cmp (a % half_limit) (b % half_limit)) ≡ nat_cmp a b
compared_halves a b = grind (arith, nat_tests)

-- whether a number comes before another in the order of numbers
pub before : (x y : ℕ) → is_lt (nat_cmp x y) ≡ ltb x y
before x y = grind (arith, nat_tests)

-- the upper halves decide, and where they are equal the lower ones
pub below_number : (a b : Id) → IdFits a → IdFits b → id_number a < id_number b ↔ ((a.high < b.high) ⊎ ((a.high ≡ b.high) × (a.low < b.low)))
unfolding id_number
below_number a b f g = (λ h. by (ltb a.high b.high) refl h, back)
  where
    by : (t : Bool) → ltb a.high b.high ≡ t → halves a.high a.low < halves b.high b.low → (a.high < b.high) ⊎ ((a.high ≡ b.high) × (a.low < b.low))
    by true p h = inl (ltb-true a.high b.high p)
    by false p h =
        let u : b.high ≤ a.high = ltb-false a.high b.high p in
        inr (omega (arith, u, h, f.1, g.1), omega (arith, u, h, f.1, g.1))

    back : (a.high < b.high) ⊎ ((a.high ≡ b.high) × (a.low < b.low)) → halves a.high a.low < halves b.high b.low
    back (inl l) = omega (arith, l, f.1)
    back (inr e) = omega (arith, e.0, e.1)
