-- Numbers and things in a row, and their bytes, are inverse: by induction over the width and over the things.
use mathlib.Core.Path.{◌≡◌, refl, sym, ap, ap₂, ◌∙◌}
use mathlib.Core.Logic.{inl, inr}
use mathlib.Core.Bool.{Bool, ◌&&◌, true, and-eq-true_iff}
use Prim.Native.Nat.{ℕ, zero, suc, ◌+◌, ◌*◌, ◌/◌, ◌%◌, ◌^◌, ◌<◌, ◌≤◌}
use mathlib.Core.List.{List, [], ◌∷◌, ◌++◌, append_assoc, append-nil, map}
use native.Mathlib.Omega.{arith}
use native.Mathlib.Nat.{add-zero, add-suc, mul_assoc, pow-suc, pow-succ', mul-suc}
use lib.ListN.{length, take, drop, get_or, length-append, length-drop, get_or-append, take-append-drop}
use lib.Seq.{take-suc, get_or-drop, get_or_at, drop-drop, drop_at}
use Rattle.rules.specs.Lists.{All}
use Rattle.rules.specs.Bytes.{big, read, flat, many}

pub big_length : (n x : ℕ) → length (big n x) ≡ n
unfolding big
big_length zero x = refl
big_length (suc n) x = simp length-append (omega (arith, big_length n (x / 256)))

-- the bytes of two parts are those of the first and then those of the other
pub big_join : (m n x y : ℕ) → y < 256 ^ n → big (m + n) (x * 256 ^ n + y) ≡ big m x ++ big n y
unfolding big
big_join m zero x y h = let e : x * 1 + y ≡ x = omega arith in rw (add-zero m, e, append-nil)
big_join m (suc n) x y h =
    let front : (x * 256 ^ suc n + y) / 256 ≡ x * 256 ^ n + y / 256 = rw (pow-suc 256 n, ← mul_assoc x (256 ^ n) 256) (omega arith) in
    let last : (x * 256 ^ suc n + y) % 256 ≡ y % 256 = rw (pow-suc 256 n, ← mul_assoc x (256 ^ n) 256) (omega arith) in
    rw (add-suc, front, last, big_join m n x (y / 256) (omega (arith, pow-suc 256 n))) (append_assoc (big m x) (big n (y / 256)) (y % 256 ∷ []))

-- reading within the first of two lists
pub read_first : (n at : ℕ) (p q : List ℕ) → at + n ≤ length p → read n at (p ++ q) ≡ read n at p
unfolding read
read_first zero at p q h = refl
read_first (suc n) at p q h = rw (read_first n at p q (omega arith), get_or-append p q 0 (at + n) (omega arith))

-- reading past the first k
pub read_drop : (n at k : ℕ) (l : List ℕ) → read n at (drop k l) ≡ read n (k + at) l
unfolding read
read_drop zero at k l = refl
read_drop (suc n) at k l = let e : k + (at + n) ≡ k + at + n = omega arith in rw (read_drop n at k l, get_or-drop, e)

-- a number's bytes are that number
pub read_big : (n x : ℕ) → x < 256 ^ n → read n 0 (big n x) ≡ x
unfolding big read
read_big zero x h = omega arith
read_big (suc n) x h =
    let y = x / 256 in
    let small : y < 256 ^ n = omega (arith, pow-succ' 256 n) in
    let high = read_first n 0 (big n y) (x % 256 ∷ []) (omega (arith, big_length n y)) ∙ read_big n y small in
    let low = get_or_at (big n y) (x % 256) [] 0 (0 + n) (omega (arith, big_length n y)) in
    omega (arith, high, low)

-- each element is a byte
abbrev pub Bytes : List ℕ → Type 0
Bytes l = (i : ℕ) → get_or l i 0 < 256

module _ (l : List ℕ) (b : Bytes l) where
  pub read_below : (n at : ℕ) → read n at l < 256 ^ n
  unfolding read
  read_below zero at = omega arith
  read_below (suc n) at = omega (arith, read_below n at, b (at + n), pow-suc 256 n)

  -- bytes are those of the number that they are
  pub big_read : (n at : ℕ) → at + n ≤ length l → big n (read n at l) ≡ take n (drop at l)
  unfolding big read
  big_read zero at h = refl
  big_read (suc n) at h =
      let d = get_or l (at + n) 0 in
      let high : (read n at l * 256 + d) / 256 ≡ read n at l = omega (arith, b (at + n)) in
      let low : (read n at l * 256 + d) % 256 ≡ d = omega (arith, b (at + n)) in
      let within : n < length (drop at l) = simp length-drop (omega arith) in
      rw (high, low, big_read n at (omega arith), take-suc (drop at l) n 0 within, get_or-drop)

  -- a number's bytes and then the rest
  pub piece : (n at : ℕ) → at + n ≤ length l → big n (read n at l) ++ drop (at + n) l ≡ drop at l
  piece n at h = rw (big_read n at h, ← drop-drop n at l) (take-append-drop n (drop at l))

-- things one after the other, of k bytes each
module _ {A : Type 0} (put : A → List ℕ) (k : ℕ) (size : (x : A) → length (put x) ≡ k) where
  pub flat_length : (xs : List A) → length (flat put xs) ≡ k * length xs
  unfolding flat
  flat_length [] = omega arith
  flat_length (x ∷ xs) = simp length-append (omega (arith, size x, flat_length xs, mul-suc k (length xs)))

pub flat_append : {A : Type 0} (put : A → List ℕ) (xs ys : List A) → flat put (xs ++ ys) ≡ flat put xs ++ flat put ys
unfolding flat
flat_append put [] ys = refl
flat_append put (x ∷ xs) ys = rw (flat_append put xs ys) (sym (append_assoc (put x) (flat put xs) (flat put ys)))

-- things that are made of others
pub flat_map : {A B : Type 0} (put : B → List ℕ) (f : A → B) (xs : List A) → flat put (map f xs) ≡ flat (λ x. put (f x)) xs
unfolding flat
flat_map put f [] = refl
flat_map put f (x ∷ xs) = ap (◌++◌ (put (f x))) (flat_map put f xs)

-- the last of n + 1 things
pub many_last : {A : Type 0} (f : ℕ → List ℕ → A) (k : ℕ) (l : List ℕ) (n at : ℕ) → many f k (suc n) at l ≡ many f k n at l ++ (f (at + k * n) l ∷ [])
unfolding many
many_last f k l zero at = let z : at + k * 0 ≡ at = omega arith in rw z
many_last f k l (suc n) at =
    let z : at + k * suc n ≡ at + k + k * n = omega (arith, mul-suc k n) in
    rw z (ap (◌∷◌ (f at l)) (many_last f k l n (at + k)))

-- whether n things, k bytes from one to the next, pass a test each
unfoldable pub all_good : (ℕ → List ℕ → Bool) → ℕ → ℕ → ℕ → List ℕ → Bool
all_good good k zero at l = true
all_good good k (suc n) at l = good at l && all_good good k n (at + k) l

-- a thing of k bytes, whose marks pass the test `good`, is inverse to its bytes; P says that its fields fit
pub record Inverse {A : Type 0} (P : A → Type 0) (f : ℕ → List ℕ → A) (put : A → List ℕ) (k : ℕ) (good : ℕ → List ℕ → Bool) : Type 0 where
  pub size : (x : A) → length (put x) ≡ k
  pub marks : (x : A) (r : List ℕ) → good 0 (put x ++ r) ≡ true
  pub reads : (x : A) → P x → (r : List ℕ) → f 0 (put x ++ r) ≡ x
  pub puts : (l : List ℕ) → Bytes l → k ≤ length l → good 0 l ≡ true → put (f 0 l) ++ drop k l ≡ l
  pub moves : (at : ℕ) (l : List ℕ) → f 0 (drop at l) ≡ f at l
  pub good_moves : (at : ℕ) (l : List ℕ) → good 0 (drop at l) ≡ good at l

-- then so are things one after the other
module _ {A : Type 0} {P : A → Type 0} {f : ℕ → List ℕ → A} {put : A → List ℕ} {k : ℕ} {good : ℕ → List ℕ → Bool} (one : Inverse P f put k good) where
  -- the first, and what is past it
  module _ (x : A) (xs : List A) (r : List ℕ) (at : ℕ) (l : List ℕ) (e : drop at l ≡ flat put (x ∷ xs) ++ r) where
    this : drop at l ≡ put x ++ (flat put xs ++ r)
    unfolding flat
    this = rw append_assoc at e

    rest : drop (at + k) l ≡ flat put xs ++ r
    rest = rw (← drop-drop k at l, this) (drop_at (put x) (flat put xs ++ r) k (one.size x))

  pub many_of_flat : (xs : List A) → All P xs → (r : List ℕ) (at : ℕ) (l : List ℕ) → drop at l ≡ flat put xs ++ r → many f k (length xs) at l ≡ xs
  unfolding many
  many_of_flat [] a r at l e = refl
  many_of_flat (x ∷ xs) a r at l e =
      let head : f at l ≡ x = rw (← one.moves at l, this x xs r at l e) (one.reads x (a x (inl refl)) (flat put xs ++ r)) in
      ap₂ ◌∷◌ head (many_of_flat xs (λ y i. a y (inr i)) r (at + k) l (rest x xs r at l e))

  pub good_of_flat : (xs : List A) (r : List ℕ) (at : ℕ) (l : List ℕ) → drop at l ≡ flat put xs ++ r → all_good good k (length xs) at l ≡ true
  unfolding all_good
  good_of_flat [] r at l e = refl
  good_of_flat (x ∷ xs) r at l e =
      let mark : good at l ≡ true = sym (one.good_moves at l) ∙ ap (good 0) (this x xs r at l e) ∙ one.marks x (flat put xs ++ r) in
      rw mark (good_of_flat xs r (at + k) l (rest x xs r at l e))

  pub flat_of_many : (l : List ℕ) → Bytes l → (n at : ℕ) → at + k * n ≤ length l → all_good good k n at l ≡ true
      → flat put (many f k n at l) ++ drop (at + k * n) l ≡ drop at l
  unfolding many flat all_good
  flat_of_many l b zero at h t = let z : at + k * 0 ≡ at = omega arith in rw z
  flat_of_many l b (suc n) at h t =
      let z : at + k * suc n ≡ at + k + k * n = omega (arith, mul-suc k n) in
      let t' = (and-eq-true_iff (good at l) (all_good good k n (at + k) l)).0 t in
      let mark : good 0 (drop at l) ≡ true = one.good_moves at l ∙ t'.0 in
      let room : k ≤ length (drop at l) = simp length-drop (omega arith) in
      rw (append_assoc, z, flat_of_many l b n (at + k) (omega arith) t'.1, ← one.moves at l, ← drop-drop k at l)
      (one.puts (drop at l) (λ i. rw get_or-drop (b (at + i))) room mark)
