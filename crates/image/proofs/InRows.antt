-- Things in a row of k bytes each: read and tested by their numbers, and written into a slice one more at a time.
use mathlib.Core.Path.{◌≡◌, refl, ap, ◌∙◌}
use Prim.Native.Nat.{ℕ, zero, suc, ◌+◌, ◌*◌, ◌%◌, ◌<◌, ◌≤◌}
use mathlib.Core.Bool.{Bool, true, false, cond, ◌&&◌}
use mathlib.Core.List.{List, ◌∷◌, append-nil, map}
use native.Mathlib.Omega.{arith}
use native.Mathlib.Nat.{mul-suc}
use native.Mathlib.Numerals.{add-one}
use mir.Val.{bool_byte}
use lib.Dec.{leb}
use lib.ListN.{length, take, get_or}
use lib.Seq.{take-suc, length-take-le}
use denote.Param.Members.{Mut, Called}
use Rattle.std.specs.Array.{IsFromFnResult, IsFromFnResultFrom}
use Rattle.std.specs.List.{list_all, range_with_len}
use Rattle.std.proofs.lemmas.List.FromFn.{fill_by_all}
use Rattle.rules.specs.Lists.{over_at}
use Rattle.rules.specs.Bytes.{read, flat, many}
use Rattle.rules.specs.Image.{marked}
use Rattle.rules.proofs.Numbers.{flat_length, flat_append}
use Rattle.rules.proofs.Over.{over_then}

-- the place of the next thing, and the next of all
module _ (k at i : ℕ) where
  next : at + k * i + k ≡ at + k * (i + 1)
  next = omega (arith, mul-suc k i, add-one i)

-- what calls gave by ascending number, where each leaves the closure as it was
module _ {F A : Type 0} (g : Mut F (ℕ × Unit {0}) A) (p : F) (h : ℕ → A) (alike : (x : ℕ) (y : A) (q : F) → Called g p (x, tt) y q → (q ≡ p) × (y ≡ h x)) (xs : List A) where
  made : (n i : ℕ) (s : F) → s ≡ p → IsFromFnResultFrom g s xs i n → (j : ℕ) (d : A) → j < n → get_or xs (i + j) d ≡ h (i + j)
  made zero i s e m j d b = absurd (omega arith)
  made (suc n) i s e (q, y, element, call, m) zero d b = let this : i + 0 ≡ i = omega arith in rw this (element.1 d ∙ (alike i y q (rw e at call)).1)
  made (suc n) i s e (q, y, element, call, m) (suc j) d b =
      let on : i + suc j ≡ i + 1 + j = omega arith in rw on (made n (i + 1) q (alike i y q (rw e at call)).0 m j d (omega arith))

module _ {A : Type 0} (f : ℕ → List ℕ → A) (k at : ℕ) (l : List ℕ) where
  rows_many : (n i : ℕ) → map (λ j. f (at + k * j) l) (range_with_len i n) ≡ many f k n (at + k * i) l
  unfolding many
  rows_many zero i = refl
  rows_many (suc n) i = rw next (ap (◌∷◌ (f (at + k * i) l)) (rows_many n (i + 1)))

  -- an array of n of them, made by a closure that reads the one of a number
  pub rows_read : {F : Type 0} {g : Mut F (ℕ × Unit {0}) A} {p : F} (n : ℕ) (xs : List A) (d : A) → IsFromFnResult g p xs n
      → ((x : ℕ) (y : A) (q : F) → Called g p (x, tt) y q → (q ≡ p) × (y ≡ f (at + k * x) l)) → xs ≡ many f k n at l
  rows_read {p = p} n xs d r alike =
      let first : at + k * 0 ≡ at = omega arith in
      fill_by_all (λ i. f (at + k * i) l) xs n d r.long (λ i h. let same : 0 + i ≡ i = omega arith in rw same at (made _ p _ alike xs n 0 p refl r.each i d h)) ∙ rw first at (rows_many n 0)

one_byte : (at : ℕ) (l : List ℕ) → read 1 at l ≡ get_or l at 0
unfolding read
one_byte at l = let first : at + 0 ≡ at = omega arith in rw first (omega arith)

-- a test of n bytes, k bytes from one to the next
module _ (most k at : ℕ) (l : List ℕ) where
  rows_tested : (n i : ℕ) → list_all (λ j. leb (get_or l (at + k * j) 0) most) (range_with_len i n) ≡ marked most k n (at + k * i) l
  unfolding marked
  rows_tested zero i = refl
  rows_tested (suc n) i = rw (next, one_byte (at + k * i) l) (ap (◌&&◌ (leb (get_or l (at + k * i) 0) most)) (rows_tested n (i + 1)))

  pub rows_marked : (n : ℕ) → list_all (λ j. leb (get_or l (at + k * j) 0) most) (range_with_len 0 n) ≡ marked most k n at l
  rows_marked n = let first : at + k * 0 ≡ at = omega arith in rw first at (rows_tested n 0)

-- the byte of a mark
pub mark_byte : (b : Bool) → bool_byte b % 256 ≡ cond b 1 0
mark_byte true = refl
mark_byte false = refl

module _ {A : Type 0} (put : A → List ℕ) (k : ℕ) (size : (x : A) → length (put x) ≡ k) where
  -- the first i were written, and one more is
  module _ (xs : List A) (at : ℕ) (l : List ℕ) where
    pub wrote_more : (d : A) (i : ℕ) → i < length xs → at ≤ length l → {m n : List ℕ} → m ≡ over_at at (flat put (take i xs)) l
        → n ≡ over_at (at + k * i) (put (get_or xs i d)) m → n ≡ over_at at (flat put (take (i + 1) xs)) l
    unfolding flat
    wrote_more d i h r p q =
        let e : length (flat put (take i xs)) ≡ k * i = flat_length put k size (take i xs) ∙ ap (◌*◌ k) (length-take-le i xs (omega arith)) in
        q ∙ rw (p, ← e, over_then at (flat put (take i xs)) (put (get_or xs i d)) l r, add-one, take-suc xs i d h, flat_append, append-nil)
