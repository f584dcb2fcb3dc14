-- What bytes are worth as digits: the table digit by digit, and pairs.
use mathlib.Core.Path.{◌≡◌, refl, sym, ap, ◌∙◌}
use mathlib.Core.Logic.{◌⊎◌, inl, inr}
use Prim.Native.Nat.{ℕ, ◌+◌, ◌*◌, ◌<◌, ◌≤◌}
use mathlib.Core.Bool.{Bool, true, false, cond}
use mathlib.Core.List.{List}
use native.Mathlib.Omega.{arith}
use borrow.Author.Tests.{eqb-true, eqb-false, lt-ltb, le-ltb, ltb-true, ltb-false}
use borrow.Table.Steps.{cases}
use lib.Dec.{eqb, ltb}
use lib.ListN.{length, get_or, set, replicate, length-set, get_or-replicate}
use Rattle.std.proofs.Common.{get_or-set_same, get_or-set_other}
use Rattle.rules.specs.Frames.{digit}
use Rattle.frame.specs.Decoded.{worth, Table}
use Rattle.frame.specs.Encoded.{hex}
use Rattle.frame.proofs.Pairs.{digit_hex, hex_digit}

-- what a byte stands for as a digit below d, 256 where it is none of them
unfoldable pub worth_below : (d c : ℕ) → ℕ
worth_below d c = cond (ltb (digit c) d) (digit c) 256

-- a list that has this for each byte
pub record TableBelow (d : ℕ) (t : List ℕ) : Type 0 where
  pub size : length t ≡ 256
  pub at : (c : ℕ) → c < 256 → get_or t c 0 ≡ worth_below d c

pub below_none : TableBelow 0 (replicate 256 256)
unfolding worth_below
below_none = record { size = refl; at = λ c h. rw (get_or-replicate {A = ℕ} 256 c 256 0 h, le-ltb (digit c) 0 (omega arith)) }

-- the entry of one digit more
pub below_more : {d : ℕ} {t : List ℕ} → d < 16 → TableBelow d t → TableBelow (d + 1) (set t (hex d) d)
unfolding worth_below
below_more {d} {t} h p = record { size = length-set t (hex d) d ∙ p.size; at = at }
  where
    other : (c : ℕ) → (c ≡ hex d → ⊥) → digit c ≡ d → ⊥
    other c n e = n (sym (hex_digit c (omega arith)) ∙ ap hex e)

    same : (c : ℕ) → (digit c ≡ d → ⊥) → worth_below d c ≡ worth_below (d + 1) c
    same c n =
        cases (ltb (digit c) d)
        (λ q. let l = ltb-true (digit c) d q in rw (q, lt-ltb (digit c) (d + 1) (omega arith)))
        (λ q. let l = ltb-false (digit c) d q in rw (q, le-ltb (digit c) (d + 1) (omega arith)))

    at : (c : ℕ) → c < 256 → get_or (set t (hex d) d) c 0 ≡ worth_below (d + 1) c
    at c k =
        cases (eqb c (hex d))
        (λ q. let e = eqb-true c (hex d) q in let i : hex d < length t = omega (arith, p.size) in rw (e, get_or-set_same t (hex d) d 0 i, digit_hex d h, lt-ltb d (d + 1) (omega arith)))
        (λ q. let n = eqb-false c (hex d) q in rw (get_or-set_other t (hex d) c d 0 n) (p.at c k ∙ same c (other c n)))

pub below_all : {t : List ℕ} → TableBelow 16 t → Table t
unfolding worth_below worth
below_all p = record { at = p.at }

-- a byte that is a digit, and one that is none
module _ (c : ℕ) where
  worth_digit : digit c < 16 → worth c ≡ digit c
  unfolding worth
  worth_digit h = rw (lt-ltb (digit c) 16 h)

  worth_none : 16 ≤ digit c → worth c ≡ 256
  unfolding worth
  worth_none h = rw (le-ltb (digit c) 16 h)

  pub worth_bound : worth c ≤ 256
  worth_bound = go (ltb (digit c) 16) refl
    where
      go : (b : Bool) → ltb (digit c) 16 ≡ b → worth c ≤ 256
      go true p = let l = ltb-true (digit c) 16 p in omega (arith, worth_digit l)
      go false p = omega (arith, worth_none (ltb-false (digit c) 16 p))

-- a pair of digits x and y
pub record Pair (x y p : ℕ) : Type 0 where
  pub high : x < 16
  pub low : y < 16
  pub is : p ≡ 16 * x + y

-- a pair up to 255 is one of digits, and one above is not
module _ (a b : ℕ) where
  below : digit a < 16 → digit b < 16 → 16 * worth a + worth b ≡ 16 * digit a + digit b
  below h k = rw (worth_digit a h, worth_digit b k)

  pub pair_good : 16 * worth a + worth b ≤ 255 → Pair (digit a) (digit b) (16 * worth a + worth b)
  pair_good h = go (ltb (digit a) 16) (ltb (digit b) 16) refl refl
    where
      go : (s t : Bool) → ltb (digit a) 16 ≡ s → ltb (digit b) 16 ≡ t → Pair (digit a) (digit b) (16 * worth a + worth b)
      go false t p q = absurd (omega (arith, worth_none a (ltb-false (digit a) 16 p)))
      go true false p q = absurd (omega (arith, worth_none b (ltb-false (digit b) 16 q)))
      go true true p q =
          let high = ltb-true (digit a) 16 p in
          let low = ltb-true (digit b) 16 q in
          record { high = high; low = low; is = below high low }

  pub pair_bad : 255 < 16 * worth a + worth b → (15 < digit a) ⊎ (15 < digit b)
  pair_bad h = go (ltb (digit a) 16) (ltb (digit b) 16) refl refl
    where
      go : (s t : Bool) → ltb (digit a) 16 ≡ s → ltb (digit b) 16 ≡ t → (15 < digit a) ⊎ (15 < digit b)
      go false t p q = inl (ltb-false (digit a) 16 p)
      go true false p q = inr (ltb-false (digit b) 16 q)
      go true true p q =
          let high = ltb-true (digit a) 16 p in
          let low = ltb-true (digit b) 16 q in
          absurd (omega (arith, below high low))
