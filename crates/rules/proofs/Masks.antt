-- Masks, control by control: what is in one that was cut or joined, and when cutting changes nothing.
use mathlib.Core.Path.{◌≡◌, refl, sym, ◌∙◌, ap}
use Prim.Native.Nat.{ℕ, zero, suc, ◌/◌, ◌%◌, ◌^◌, ◌<◌, ◌≤◌, min}
use native.Mathlib.Nat.{zero-div, div-one, div-div-eq-div-mul, pow-succ'}
use native.Mathlib.Omega.{arith}
use mathlib.Core.Bool.{Bool, true, false, cond, not, ◌&&◌, ◌||◌}
use lib.Dec.{eqb}
use lib.Bits.{bit_and, bit_or, bit_xor, and_shr, and_mod, or_shr, or_mod, xor_shr, xor_mod, or_zero_l, and_zero_l, xor_zero_l, xor_zero_r, and_step, and_self, and_le_r, xor_add_and}
use lib.Arith.{bin_ind}
use Rattle.rules.specs.Records.{cut, join, has}
use Rattle.rules.proofs.Tests.{both}

-- a law of two digits, by the four cases
two : (P : ℕ → ℕ → Type 0) → P 0 0 → P 0 1 → P 1 0 → P 1 1 → (x y : ℕ) → x < 2 → y < 2 → P x y
two P a b c d zero zero h k = a
two P a b c d zero (suc zero) h k = b
two P a b c d zero (suc (suc y)) h k = absurd (omega arith)
two P a b c d (suc zero) zero h k = c
two P a b c d (suc zero) (suc zero) h k = d
two P a b c d (suc zero) (suc (suc y)) h k = absurd (omega arith)
two P a b c d (suc (suc x)) y h k = absurd (omega arith)

digit : (a c : ℕ) → a / 2 ^ c % 2 < 2
digit a c = omega arith

pub has_cut : (a b c : ℕ) → has (cut a b) c ≡ has a c && not (has b c)
unfolding has cut
has_cut a b c =
    rw (xor_shr a (bit_and a b) c, xor_mod (a / 2 ^ c) (bit_and a b / 2 ^ c) 1, and_shr a b c, and_mod (a / 2 ^ c) (b / 2 ^ c) 1)
    (two (λ x y. eqb (bit_xor x (bit_and x y)) 1 ≡ eqb x 1 && not (eqb y 1)) refl refl refl refl (a / 2 ^ c % 2) (b / 2 ^ c % 2) (digit a c) (digit b c))

pub has_join : (a b c : ℕ) → has (join a b) c ≡ has a c || has b c
unfolding has join
has_join a b c =
    rw (or_shr a b c, or_mod (a / 2 ^ c) (b / 2 ^ c) 1)
    (two (λ x y. eqb (bit_or x y) 1 ≡ eqb x 1 || eqb y 1) refl refl refl refl (a / 2 ^ c % 2) (b / 2 ^ c % 2) (digit a c) (digit b c))

pub has_and : (a b c : ℕ) → has (bit_and a b) c ≡ has a c && has b c
unfolding has
has_and a b c =
    rw (and_shr a b c, and_mod (a / 2 ^ c) (b / 2 ^ c) 1)
    (two (λ x y. eqb (bit_and x y) 1 ≡ eqb x 1 && eqb y 1) refl refl refl refl (a / 2 ^ c % 2) (b / 2 ^ c % 2) (digit a c) (digit b c))

pub has_none : (c : ℕ) → has 0 c ≡ false
unfolding has
has_none c = rw zero-div

pub join_none : (m : ℕ) → join 0 m ≡ m
unfolding join
join_none m = or_zero_l m

pub cut_none : (m : ℕ) → cut 0 m ≡ 0
unfolding cut
cut_none m = rw (and_zero_l, xor_zero_l)

pub not_has : {P : Type 0} (m c : ℕ) → m ≡ 0 → has m c ≡ true → P
not_has m c z e = both (has m c) e (ap (λ n. has n c) z ∙ has_none c)

-- a choice of none or m has no more than m
pub has_either : (b : Bool) (m c : ℕ) → has (cond b 0 m) c ≡ true → has m c ≡ true
has_either true m c e = not_has 0 c refl e
has_either false m c e = e

-- Masks that share no control.

pub has_half : (a c : ℕ) → has (a / 2) c ≡ has a (suc c)
unfolding has
has_half a c = rw (div-div-eq-div-mul a 2 (2 ^ c), pow-succ' 2 c)

pub odd : (n : ℕ) → n % 2 ≡ 1 → has n 0 ≡ true
unfolding has
odd n e = rw (div-one, e)

pub and_apart : (a b : ℕ) → ((c : ℕ) → has a c ≡ true → has b c ≡ true → ⊥) → bit_and a b ≡ 0
and_apart = bin_ind (λ a. (b : ℕ) → ((c : ℕ) → has a c ≡ true → has b c ≡ true → ⊥) → bit_and a b ≡ 0) (λ b h. refl) step
  where
    step : (n : ℕ) → ((b : ℕ) → ((c : ℕ) → has (n / 2) c ≡ true → has b c ≡ true → ⊥) → bit_and (n / 2) b ≡ 0)
        → (b : ℕ) → ((c : ℕ) → has n c ≡ true → has b c ≡ true → ⊥) → bit_and n b ≡ 0
    step n ih b h = and_step n b ∙ omega (arith, ih (b / 2) (λ c p q. h (suc c) (rw has_half at p) (rw has_half at q)), digits (n % 2) (b % 2) refl refl (omega arith) (omega arith))
      where
        digits : (x y : ℕ) → n % 2 ≡ x → b % 2 ≡ y → x < 2 → y < 2 → min x y ≡ 0
        digits zero y p q l k = omega arith
        digits (suc x) zero p q l k = omega arith
        digits (suc zero) (suc zero) p q l k = absurd (h 0 (odd n p) (odd b q))
        digits (suc zero) (suc (suc y)) p q l k = omega arith
        digits (suc (suc x)) (suc y) p q l k = omega arith

pub cut_apart : (a b : ℕ) → ((c : ℕ) → has a c ≡ true → has b c ≡ true → ⊥) → cut a b ≡ a
unfolding cut
cut_apart a b h = rw (and_apart a b h, xor_zero_r)

-- a mask without controls is 0
pub no_bits : (m : ℕ) → ((k : ℕ) → has m k ≡ true → ⊥) → m ≡ 0
no_bits m f = sym (and_self m) ∙ and_apart m m (λ k e d. f k e)

-- and one that is not 0 has a control
pub some_bit : (m : ℕ) → (m ≡ 0 → ⊥) → (c : ℕ) × (has m c ≡ true)
some_bit = bin_ind (λ m. (m ≡ 0 → ⊥) → (c : ℕ) × (has m c ≡ true)) (λ f. absurd (f refl)) step
  where
    step : (n : ℕ) → ((n / 2 ≡ 0 → ⊥) → (c : ℕ) × (has (n / 2) c ≡ true)) → (n ≡ 0 → ⊥) → (c : ℕ) × (has n c ≡ true)
    step n ih f = go (n % 2) refl
      where
        go : (d : ℕ) → n % 2 ≡ d → (c : ℕ) × (has n c ≡ true)
        go zero e = let r = ih (λ z. f (omega arith)) in (suc r.0, sym (has_half n r.0) ∙ r.1)
        go (suc d) e = (0, odd n (omega arith))

pub cut_within : (a b : ℕ) → ((k : ℕ) → has a k ≡ true → has b k ≡ true) → cut a b ≡ 0
cut_within a b f = no_bits (cut a b) (λ k e. go k (has a k) refl (has b k) refl (sym (has_cut a b k) ∙ e))
  where
    go : (k : ℕ) → (x : Bool) → has a k ≡ x → (y : Bool) → has b k ≡ y → (has a k && not (has b k)) ≡ true → ⊥
    go k true p true q e = both false (rw (p, q) at e) refl
    go k true p false q e = both (has b k) (f k p) q
    go k false p y q e = both false (rw p at e) refl

-- and the other way
pub within_cut : (a b : ℕ) → cut a b ≡ 0 → (k : ℕ) → has a k ≡ true → has b k ≡ true
within_cut a b z k e = go (has b k) refl
  where
    go : (y : Bool) → has b k ≡ y → y ≡ true
    go true q = refl
    go false q = not_has (cut a b) k z (rw (has_cut a b k, e, q))

-- a mask within another is no larger as a number
pub within_below : (a b : ℕ) → ((k : ℕ) → has a k ≡ true → has b k ≡ true) → a ≤ b
unfolding cut
within_below a b f = omega (arith, cut_within a b f, xor_add_and a (bit_and a b), and_le_r a (bit_and a b), and_le_r a b)

pub apart_cut : (a b : ℕ) → cut a b ≡ a → (k : ℕ) → has a k ≡ true → has b k ≡ true → ⊥
apart_cut a b z k e d = both false (sym (rw (e, d) at (has_cut a b k)) ∙ ap (λ m. has m k) z ∙ e) refl
