-- The pass over a line: what is known after i pairs, and that a byte that is no digit decides.
use mathlib.Core.Path.{◌≡◌, refl, sym, ◌∙◌}
use mathlib.Core.Logic.{◌⊎◌, inl, inr}
use Prim.Native.Nat.{ℕ, zero, suc, ◌+◌, ◌*◌, ◌/◌, ◌<◌, ◌≤◌}
use mathlib.Core.Bool.{true, false, and-false, false≢true}
use mathlib.Core.List.{List, [], ◌∷◌, ◌++◌, append_assoc, append-nil}
use native.Mathlib.Omega.{arith}
use borrow.Author.Tests.{lt-ltb, le-ltb}
use lib.ListN.{length, get_or, take, drop, set, length-set, drop_of_length-le}
use lib.Seq.{drop-cons, take-suc-set}
use Rattle.rules.specs.Frames.{event_frame, digit, paired, unhex}
use Rattle.std.specs.Simd.{first_chunks}
use Rattle.frame.specs.Decoded.{worth, Unhexed}

-- i pairs are digits, and the array begins with their bytes
pub record PairsPassed (l : List ℕ) (i : ℕ) (b : List ℕ) : Type 0 where
  pub size : length b ≡ event_frame
  pub digits : paired l ≡ paired (drop (2 * i) l)
  pub front : unhex l ≡ take i b ++ unhex (drop (2 * i) l)

pub passed_none : (l b : List ℕ) → length b ≡ event_frame → PairsPassed l 0 b
passed_none l b h = record { size = h; digits = refl; front = refl }

module _ (l : List ℕ) (i : ℕ) (h : 2 * i + 1 < length l) where
  rest : drop (2 * i) l ≡ get_or l (2 * i) 0 ∷ get_or l (2 * i + 1) 0 ∷ drop (2 * (i + 1)) l
  rest =
      let e : suc (2 * i) ≡ 2 * i + 1 = omega arith in
      let f : suc (2 * i + 1) ≡ 2 * (i + 1) = omega arith in
      rw (drop-cons l (2 * i) 0 (omega arith), e, drop-cons l (2 * i + 1) 0 h, f)

  -- the next pair is x and y
  module _ {b : List ℕ} (p : PairsPassed l i b) {x y : ℕ} (is_x : x ≡ digit (get_or l (2 * i) 0)) (is_y : y ≡ digit (get_or l (2 * i + 1) 0)) where
    pub passed_more : x < 16 → y < 16 → i < event_frame → PairsPassed l (i + 1) (set b i (16 * x + y))
    unfolding paired unhex
    passed_more u v n =
        let e : i + 1 ≡ suc i = omega arith in
        record {
          size = length-set b i (16 * x + y) ∙ p.size;
          digits = p.digits ∙ rw (rest, ← is_x, ← is_y, lt-ltb x 16 u, lt-ltb y 16 v);
          front = p.front ∙ rw (rest, ← is_x, ← is_y, e, take-suc-set b i (16 * x + y) (omega (arith, p.size)), append_assoc);
        }

    pub no_digit : (15 < x) ⊎ (15 < y) → Unhexed l false b
    unfolding paired
    no_digit o = record { size = p.size; digits = sym (p.digits ∙ bad o); bytes = λ e. absurd (false≢true e) }
      where
        bad : (15 < x) ⊎ (15 < y) → paired (drop (2 * i) l) ≡ false
        bad (inl u) = rw (rest, ← is_x, le-ltb x 16 u)
        bad (inr v) = rw (rest, ← is_x, ← is_y, le-ltb y 16 v, and-false)

pub passed_all : {l b : List ℕ} → length l ≡ 2 * (length l / 2) → PairsPassed l (length l / 2) b → Unhexed l true b
unfolding paired unhex
passed_all {l} e p =
    let end : drop (2 * (length l / 2)) l ≡ [] = drop_of_length-le l {i = 2 * (length l / 2)} (omega arith) in
    record { size = p.size; digits = sym (p.digits ∙ rw end); bytes = λ _. sym (p.front ∙ rw (end, append-nil)) }

-- the i-th chunk of two bytes
pub pair_at : (n i : ℕ) (l d : List ℕ) → i < n → 2 * n ≤ length l → get_or (first_chunks 2 n l) i d ≡ get_or l (2 * i) 0 ∷ get_or l (2 * i + 1) 0 ∷ []
pair_at n i [] d h k = absurd (omega arith)
pair_at n i (x ∷ []) d h k = absurd (omega arith)
pair_at zero i (x ∷ y ∷ l) d h k = absurd (omega arith)
pair_at (suc n) zero (x ∷ y ∷ l) d h k = refl
pair_at (suc n) (suc i) (x ∷ y ∷ l) d h k =
    let e : 2 * suc i ≡ suc (suc (2 * i)) = omega arith in
    let f : suc (suc (2 * i)) + 1 ≡ suc (suc (2 * i + 1)) = omega arith in
    rw (e, f) (pair_at n i l d (omega arith) (omega arith))

-- what is read of that chunk
module _ (l : List ℕ) {chunks : List (List ℕ)} {i x : ℕ} (e : chunks ≡ first_chunks 2 (length l / 2) l) (h : i < length l / 2) where
  pub high_read : x ≡ worth (get_or (get_or chunks i []) 0 0) → x ≡ worth (get_or l (2 * i) 0)
  high_read r = r ∙ rw (e, pair_at (length l / 2) i l [] h (omega arith))

  pub low_read : x ≡ worth (get_or (get_or chunks i []) 1 0) → x ≡ worth (get_or l (2 * i + 1) 0)
  low_read r = r ∙ rw (e, pair_at (length l / 2) i l [] h (omega arith))
