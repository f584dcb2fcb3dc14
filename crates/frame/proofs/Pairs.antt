-- Digits and the numbers below 16 are inverse, and so are pairs of digits and bytes: pair by pair.
use mathlib.Core.Path.{◌≡◌, refl}
use Prim.Native.Nat.{ℕ, zero, suc, ◌+◌, ◌-◌, ◌*◌, ◌/◌, ◌%◌, ◌<◌, ◌≤◌}
use mathlib.Core.Bool.{Bool, true, false, ◌&&◌, false≢true}
use mathlib.Core.List.{List, [], ◌∷◌, ◌++◌}
use native.Mathlib.Omega.{arith}
use borrow.Author.Tests.{le-leb, lt-leb, lt-ltb, le-ltb, leb-true, ltb-true, ltb-false}
use lib.Dec.{leb, ltb}
use lib.ListN.{length, get_or}
use Rattle.rules.specs.Frames.{digit, paired, unhex}
use Rattle.rules.proofs.Numbers.{Bytes}
use Rattle.rules.proofs.Tests.{each_true}
use Rattle.frame.specs.Decoded.{all_digits}
use Rattle.frame.specs.Encoded.{hex, hexed}

pub digit_low : (c : ℕ) → 48 ≤ c → c ≤ 57 → digit c ≡ c - 48
unfolding digit
digit_low c a b = rw (le-leb 48 c a, le-leb c 57 b)

pub digit_high : (c : ℕ) → 65 ≤ c → c ≤ 70 → digit c ≡ c - 55
unfolding digit
digit_high c a b = rw (le-leb 48 c (omega arith), lt-leb c 57 (omega arith), le-leb 65 c a, le-leb c 70 b)

pub hex_low : (d : ℕ) → d < 10 → hex d ≡ d + 48
unfolding hex
hex_low d h = rw (lt-ltb d 10 h)

pub hex_high : (d : ℕ) → 10 ≤ d → hex d ≡ d + 55
unfolding hex
hex_high d h = rw (le-ltb d 10 h)

pub digit_hex : (d : ℕ) → d < 16 → digit (hex d) ≡ d
digit_hex d h = go (ltb d 10) refl
  where
    go : (b : Bool) → ltb d 10 ≡ b → digit (hex d) ≡ d
    go true p = let l = ltb-true d 10 p in rw (hex_low d l, digit_low (d + 48) (omega arith) (omega arith)) (omega arith)
    go false p = let l = ltb-false d 10 p in rw (hex_high d l, digit_high (d + 55) (omega arith) (omega arith)) (omega arith)

pub hex_digit : (c : ℕ) → digit c < 16 → hex (digit c) ≡ c
unfolding digit
hex_digit c h = go (leb 48 c && leb c 57) (leb 65 c && leb c 70) refl refl
  where
    go : (a b : Bool) → (leb 48 c && leb c 57) ≡ a → (leb 65 c && leb c 70) ≡ b → hex (digit c) ≡ c
    go true b p q =
        let t = each_true (leb 48 c) (leb c 57) p in
        let l = leb-true 48 c t.0 in
        let u = leb-true c 57 t.1 in
        rw (p, hex_low (c - 48) (omega arith)) (omega arith)
    go false true p q =
        let t = each_true (leb 65 c) (leb c 70) q in
        let l = leb-true 65 c t.0 in
        let u = leb-true c 70 t.1 in
        rw (p, q, hex_high (c - 55) (omega arith)) (omega arith)
    go false false p q = absurd (omega (arith, rw (p, q) at h))

-- each element is a byte
abbrev pub Small : List ℕ → Type 0
Small [] = Unit {0}
Small (x ∷ xs) = (x < 256) × Small xs

pub paired_hexed : (b : List ℕ) → Small b → paired (hexed b) ≡ true
unfolding paired hexed
paired_hexed [] s = refl
paired_hexed (x ∷ xs) s =
    rw (
      digit_hex (x / 16) (omega arith),
      digit_hex (x % 16) (omega arith),
      lt-ltb (x / 16) 16 (omega arith),
      lt-ltb (x % 16) 16 (omega arith),
      paired_hexed xs s.1,
    )

pub unhex_hexed : (b : List ℕ) → Small b → unhex (hexed b) ≡ b
unfolding unhex hexed
unhex_hexed [] s = refl
unhex_hexed (x ∷ xs) s =
    let e : 16 * (x / 16) + x % 16 ≡ x = omega arith in
    rw (digit_hex (x / 16) (omega arith), digit_hex (x % 16) (omega arith), e, unhex_hexed xs s.1)

-- what a line of pairs says of its first two bytes and of the rest
pub paired_more : (x y : ℕ) (l : List ℕ) → paired (x ∷ y ∷ l) ≡ true → (digit x < 16) × (digit y < 16) × (paired l ≡ true)
unfolding paired
paired_more x y l p =
    let t = each_true (ltb (digit x) 16) (ltb (digit y) 16 && paired l) p in
    let u = each_true (ltb (digit y) 16) (paired l) t.1 in
    (ltb-true (digit x) 16 t.0, ltb-true (digit y) 16 u.0, u.1)

pub hexed_unhex : (l : List ℕ) → paired l ≡ true → hexed (unhex l) ≡ l
unfolding paired unhex hexed
hexed_unhex [] p = refl
hexed_unhex (x ∷ []) p = absurd (false≢true p)
hexed_unhex (x ∷ y ∷ l) p =
    let m = paired_more x y l p in
    let h : (16 * digit x + digit y) / 16 ≡ digit x = omega arith in
    let d : (16 * digit x + digit y) % 16 ≡ digit y = omega arith in
    rw (h, d, hex_digit x m.0, hex_digit y m.1, hexed_unhex l m.2)

pub bytes_unhex : (l : List ℕ) → paired l ≡ true → Bytes (unhex l)
unfolding unhex
bytes_unhex [] p i = omega arith
bytes_unhex (x ∷ []) p i = omega arith
bytes_unhex (x ∷ y ∷ l) p zero = omega (arith, paired_more x y l p)
bytes_unhex (x ∷ y ∷ l) p (suc i) = bytes_unhex l (paired_more x y l p).2 i

-- pairs are half as many as their digits
pub length_unhex : (l : List ℕ) → paired l ≡ true → length l ≡ 2 * length (unhex l)
unfolding paired unhex
length_unhex [] p = refl
length_unhex (x ∷ []) p = absurd (false≢true p)
length_unhex (x ∷ y ∷ l) p = omega (arith, length_unhex l (paired_more x y l p).2)

pub length_hexed : (b : List ℕ) → length (hexed b) ≡ 2 * length b
unfolding hexed
length_hexed [] = refl
length_hexed (x ∷ xs) = omega (arith, length_hexed xs)

pub hexed_append : (p q : List ℕ) → hexed (p ++ q) ≡ hexed p ++ hexed q
unfolding hexed
hexed_append [] q = refl
hexed_append (x ∷ p) q = rw (hexed_append p q)

-- the first pair, and that a line with none has no byte
pub first_pair : (l : List ℕ) → 2 ≤ length l → get_or (unhex l) 0 0 ≡ 16 * digit (get_or l 0 0) + digit (get_or l 1 0)
unfolding unhex
first_pair [] h = absurd (omega arith)
first_pair (x ∷ []) h = absurd (omega arith)
first_pair (x ∷ y ∷ l) h = refl

pub no_pair : (l : List ℕ) → length l < 2 → get_or (unhex l) 0 0 ≡ 0
unfolding unhex
no_pair [] h = refl
no_pair (x ∷ []) h = refl
no_pair (x ∷ y ∷ l) h = absurd (omega arith)

-- a line of an even number of bytes is pairs of digits if all are digits
pub paired_all : (n : ℕ) (l : List ℕ) → length l ≡ 2 * n → paired l ≡ all_digits l
unfolding paired
paired_all zero [] h = refl
paired_all zero (x ∷ l) h = absurd (omega arith)
paired_all (suc n) [] h = absurd (omega arith)
paired_all (suc n) (x ∷ []) h = absurd (omega arith)
paired_all (suc n) (x ∷ y ∷ l) h = rw (paired_all n l (omega arith))
