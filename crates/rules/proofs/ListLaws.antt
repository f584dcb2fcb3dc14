-- Laws of lists: what is kept, where a thing is put, membership, and that ascending lists with the same members are equal.
use Rattle.std.specs.List.{list_all}
use mathlib.Core.Path.{◌≡◌, refl, sym, ap, ap₂, ◌∙◌, subst}
use mathlib.Core.Logic.{◌⊎◌, inl, inr, ⊎_elim}
use Prim.Native.Nat.{ℕ, zero, suc, ◌+◌, ◌<◌, ◌≤◌}
use mathlib.Core.Bool.{Bool, true, false, cond, ◌&&◌}
use mathlib.Core.List.{List, [], ◌∷◌, ◌++◌, map}
use native.Mathlib.Omega.{arith}
use lib.Dec.{ltb}
use lib.ListN.{length, get_or, take, drop, set, replicate}
use lib.Seq.{drop-cons}
use borrow.Author.Tests.{ltb-true, ltb-false, lt-ltb}
use Rattle.rules.specs.Lists.{keep, insert, each, pairs, In, Same, All, Pairwise}
use Rattle.rules.proofs.Tests.{both, each_true}

module _ {A : Type 0} where
  pub in_keep : (p : A → Bool) (y : A) (xs : List A) → In y (keep p xs) → In y xs × (p y ≡ true)
  in_keep p y [] m = absurd m
  in_keep p y (x ∷ xs) m = go (p x) refl (in_keep p y xs) m
    where
      go : (b : Bool) → p x ≡ b → (In y (keep p xs) → In y xs × (p y ≡ true)) → In y (cond b (x ∷ keep p xs) (keep p xs)) → In y (x ∷ xs) × (p y ≡ true)
      go true e ih (inl q) = (inl q, ap p q ∙ e)
      go true e ih (inr n) = (inr (ih n).0, (ih n).1)
      go false e ih n = (inr (ih n).0, (ih n).1)

  pub keep_in : (p : A → Bool) (y : A) (xs : List A) → In y xs → p y ≡ true → In y (keep p xs)
  keep_in p y [] m e = absurd m
  keep_in p y (x ∷ xs) m e = go (p x) refl (λ n. keep_in p y xs n e) m
    where
      go : (b : Bool) → p x ≡ b → (In y xs → In y (keep p xs)) → In y (x ∷ xs) → In y (cond b (x ∷ keep p xs) (keep p xs))
      go true d ih (inl q) = inl q
      go true d ih (inr n) = inr (ih n)
      go false d ih (inl q) = both (p x) (sym (ap p q) ∙ e) d
      go false d ih (inr n) = ih n

  pub keep_keep : (p q : A → Bool) (xs : List A) → All (λ x. q x ≡ false → p x ≡ false) xs → keep p (keep q xs) ≡ keep p xs
  keep_keep p q [] h = refl
  keep_keep p q (x ∷ xs) h = go (q x) refl (keep_keep p q xs (λ y m. h y (inr m)))
    where
      go : (b : Bool) → q x ≡ b → keep p (keep q xs) ≡ keep p xs → keep p (cond b (x ∷ keep q xs) (keep q xs)) ≡ cond (p x) (x ∷ keep p xs) (keep p xs)
      go true e ih = rw ih
      go false e ih = rw (h x (inl refl) e) ih

  pub keep_cong : (p q : A → Bool) (xs : List A) → All (λ x. p x ≡ q x) xs → keep p xs ≡ keep q xs
  keep_cong p q [] h = refl
  keep_cong p q (x ∷ xs) h = rw (h x (inl refl), keep_cong p q xs (λ y m. h y (inr m)))

  pub asc_keep : (R : A → A → Type 0) (p : A → Bool) (xs : List A) → Pairwise R xs → Pairwise R (keep p xs)
  asc_keep R p [] h = h
  asc_keep R p (x ∷ xs) h = go (p x) (asc_keep R p xs h.1)
    where
      go : (b : Bool) → Pairwise R (keep p xs) → Pairwise R (cond b (x ∷ keep p xs) (keep p xs))
      go true ih = (λ y m. h.0 y (in_keep p y xs m).0, ih)
      go false ih = ih

  module _ (n : A → ℕ) (a : A) where
    pub in_insert : (z : A) (xs : List A) → In z (insert n a xs) → (z ≡ a) ⊎ In z xs
    in_insert z [] m = m
    in_insert z (x ∷ xs) m = go (ltb (n a) (n x)) (in_insert z xs) m
      where
        go : (b : Bool) → (In z (insert n a xs) → (z ≡ a) ⊎ In z xs) → In z (cond b (a ∷ x ∷ xs) (x ∷ insert n a xs)) → (z ≡ a) ⊎ In z (x ∷ xs)
        go true ih m = m
        go false ih (inl e) = inr (inl e)
        go false ih (inr m) = ⊎_elim (λ e. inl e) (λ k. inr (inr k)) (ih m)

    pub insert_front : (xs : List A) → All (λ x. n a < n x) xs → insert n a xs ≡ a ∷ xs
    insert_front [] h = refl
    insert_front (x ∷ xs) h = rw (lt-ltb (n a) (n x) (h x (inl refl)))

    pub keep_insert : (p : A → Bool) (xs : List A) → p a ≡ true → Pairwise (λ x y. n x ≤ n y) xs → keep p (insert n a xs) ≡ insert n a (keep p xs)
    keep_insert p [] e h = rw e
    keep_insert p (x ∷ xs) e h = go (ltb (n a) (n x)) (p x) refl refl (keep_insert p xs e h.1)
      where
        above : ltb (n a) (n x) ≡ true → (y : A) → In y (keep p xs) → n a < n y
        above d y m = omega (arith, ltb-true (n a) (n x) d, h.0 y (in_keep p y xs m).0)

        go : (b c : Bool) → ltb (n a) (n x) ≡ b → p x ≡ c → keep p (insert n a xs) ≡ insert n a (keep p xs)
            → keep p (cond b (a ∷ x ∷ xs) (x ∷ insert n a xs)) ≡ insert n a (keep p (x ∷ xs))
        go true true d q ih = rw (q, e, d)
        go true false d q ih = rw (q, e) (sym (insert_front (keep p xs) (above d)))
        go false true d q ih = rw (q, d) (ap (◌∷◌ x) ih)
        go false false d q ih = rw q ih

    pub keep_insert_not : (p : A → Bool) (xs : List A) → p a ≡ false → keep p (insert n a xs) ≡ keep p xs
    keep_insert_not p [] e = rw e
    keep_insert_not p (x ∷ xs) e = go (ltb (n a) (n x)) (keep_insert_not p xs e)
      where
        go : (b : Bool) → keep p (insert n a xs) ≡ keep p xs → keep p (cond b (a ∷ x ∷ xs) (x ∷ insert n a xs)) ≡ keep p (x ∷ xs)
        go true ih = rw e
        go false ih = rw ih

    pub asc_insert : (R : A → A → Type 0) (xs : List A) → Pairwise R xs
        → All (λ x. n x ≤ n a → R x a) xs → All (λ x. n a < n x → R a x) xs → Pairwise (λ x y. n x ≤ n y) xs → Pairwise R (insert n a xs)
    asc_insert R [] h u v s = (λ y m. absurd m, tt)
    asc_insert R (x ∷ xs) h u v s = go (ltb (n a) (n x)) refl (asc_insert R xs h.1 (λ y m. u y (inr m)) (λ y m. v y (inr m)) s.1)
      where
        go : (b : Bool) → ltb (n a) (n x) ≡ b → Pairwise R (insert n a xs) → Pairwise R (cond b (a ∷ x ∷ xs) (x ∷ insert n a xs))
        go true e ih = (λ y m. v y m (above y m), h)
          where
            above : (y : A) → In y (x ∷ xs) → n a < n y
            above y (inl q) = rw q (ltb-true (n a) (n x) e)
            above y (inr m) = omega (arith, ltb-true (n a) (n x) e, s.0 y m)
        go false e ih = (λ y m. ⊎_elim (λ q. rw q (u x (inl refl) (ltb-false (n a) (n x) e))) (λ k. h.0 y k) (in_insert y xs m), ih)

  -- ascending lists with the same members are equal
  module _ (R : A → A → Type 0) (asym : (x y : A) → R x y → R y x → ⊥) where
    pub ext : (xs ys : List A) → Pairwise R xs → Pairwise R ys → Same xs ys → xs ≡ ys
    ext [] [] h k s = refl
    ext [] (y ∷ ys) h k s = absurd ((s y).1 (inl refl))
    ext (x ∷ xs) [] h k s = absurd ((s x).0 (inl refl))
    ext (x ∷ xs) (y ∷ ys) h k s = ap₂ ◌∷◌ e (ext xs ys h.1 k.1 tails)
      where
        e : x ≡ y
        e = ⊎_elim (λ d. d) (λ m. ⊎_elim (λ d. sym d) (λ n. absurd (asym x y (h.0 y n) (k.0 x m))) ((s y).1 (inl refl))) ((s x).0 (inl refl))

        tails : Same xs ys
        tails z = (
          λ m. ⊎_elim (λ d. absurd (let l : R x z = h.0 z m in let r : R x x = subst (λ w. R x w) (d ∙ sym e) l in asym x x r r)) (λ n. n) ((s z).0 (inr m)),
          λ m. ⊎_elim (λ d. absurd (let l : R y z = k.0 z m in let r : R y y = subst (λ w. R y w) (d ∙ e) l in asym y y r r)) (λ n. n) ((s z).1 (inr m)),
        )

    -- members of which neither comes before the other are one
    pub one : (xs : List A) → Pairwise R xs → (x y : A) → In x xs → In y xs → (R x y → ⊥) → (R y x → ⊥) → x ≡ y
    one [] h x y m n u v = absurd m
    one (z ∷ zs) h x y (inl p) (inl q) u v = p ∙ sym q
    one (z ∷ zs) h x y (inl p) (inr n) u v = absurd (u (rw p (h.0 y n)))
    one (z ∷ zs) h x y (inr m) (inl q) u v = absurd (v (rw q (h.0 x m)))
    one (z ∷ zs) h x y (inr m) (inr n) u v = one zs h.1 x y m n u v

pub asc_weaken : {A : Type 0} (R S : A → A → Type 0) → ((x y : A) → R x y → S x y) → (xs : List A) → Pairwise R xs → Pairwise S xs
asc_weaken R S f [] h = h
asc_weaken R S f (x ∷ xs) h = (λ y m. f x y (h.0 y m), asc_weaken R S f xs h.1)

-- what relates two that are in the list
pub asc_with : {A : Type 0} (R : A → A → Type 0) (P : A → Type 0) (xs : List A) → Pairwise R xs → All P xs → Pairwise (λ x y. R x y × P x × P y) xs
asc_with R P [] h f = h
asc_with R P (x ∷ xs) h f = (λ y m. (h.0 y m, f x (inl refl), f y (inr m)), asc_with R P xs h.1 (λ y m. f y (inr m)))

module _ {A B : Type 0} where
  pub map_cong : (f g : A → B) (xs : List A) → All (λ x. f x ≡ g x) xs → map f xs ≡ map g xs
  map_cong f g [] h = refl
  map_cong f g (x ∷ xs) h = ap₂ ◌∷◌ (h x (inl refl)) (map_cong f g xs (λ y m. h y (inr m)))

  pub in_map : (f : A → B) (y : B) (xs : List A) → In y (map f xs) → (x : A) × In x xs × (y ≡ f x)
  in_map f y [] m = absurd m
  in_map f y (x ∷ xs) (inl e) = (x, inl refl, e)
  in_map f y (x ∷ xs) (inr m) = let r = in_map f y xs m in (r.0, inr r.1, r.2)

  pub map_in : (f : A → B) (x : A) (xs : List A) → In x xs → In (f x) (map f xs)
  map_in f x [] m = elim m [ ]
  map_in f x (y ∷ ys) (inl e) = inl (ap f e)
  map_in f x (y ∷ ys) (inr m) = inr (map_in f x ys m)

  pub all_map : (P : B → Type 0) (f : A → B) (xs : List A) → All (λ x. P (f x)) xs → All P (map f xs)
  all_map P f xs h y m = let r = in_map f y xs m in rw r.2 (h r.0 r.1)

  pub asc_map : (R : A → A → Type 0) (S : B → B → Type 0) (f : A → B) → ((x y : A) → R x y → S (f x) (f y)) → (xs : List A) → Pairwise R xs → Pairwise S (map f xs)
  asc_map R S f h [] k = k
  asc_map R S f h (x ∷ xs) k = (all_map (S (f x)) f xs (λ y m. h x y (k.0 y m)), asc_map R S f h xs k.1)

  pub keep_map : (p : B → Bool) (f : A → B) (xs : List A) → keep p (map f xs) ≡ map f (keep (λ x. p (f x)) xs)
  keep_map p f [] = refl
  keep_map p f (x ∷ xs) = go (p (f x)) (keep_map p f xs)
    where
      go : (b : Bool) → keep p (map f xs) ≡ map f (keep (λ x. p (f x)) xs)
          → cond b (f x ∷ keep p (map f xs)) (keep p (map f xs)) ≡ map f (cond b (x ∷ keep (λ x. p (f x)) xs) (keep (λ x. p (f x)) xs))
      go true ih = ap (◌∷◌ (f x)) ih
      go false ih = ih

  pub insert_map : (n : A → ℕ) (k : B → ℕ) (f : A → B) → ((x : A) → k (f x) ≡ n x) → (a : A) (xs : List A)
      → map f (insert n a xs) ≡ insert k (f a) (map f xs)
  insert_map n k f h a [] = refl
  insert_map n k f h a (x ∷ xs) = rw (h a, h x) (go (ltb (n a) (n x)) (insert_map n k f h a xs))
    where
      go : (b : Bool) → map f (insert n a xs) ≡ insert k (f a) (map f xs)
          → map f (cond b (a ∷ x ∷ xs) (x ∷ insert n a xs)) ≡ cond b (f a ∷ f x ∷ map f xs) (f x ∷ insert k (f a) (map f xs))
      go true ih = refl
      go false ih = ap (◌∷◌ (f x)) ih

-- Each passes.

module _ {A : Type 0} where
  pub each_all : (p : A → Bool) (xs : List A) → each p xs ≡ true → All (λ x. p x ≡ true) xs
  each_all p [] e y m = absurd m
  each_all p (x ∷ xs) e y (inl q) = rw q (each_true (p x) (each p xs) e).0
  each_all p (x ∷ xs) e y (inr m) = each_all p xs (each_true (p x) (each p xs) e).1 y m

  pub all_each : (p : A → Bool) (xs : List A) → All (λ x. p x ≡ true) xs → each p xs ≡ true
  all_each p [] h = refl
  all_each p (x ∷ xs) h = rw (h x (inl refl)) (all_each p xs (λ y m. h y (inr m)))

  module _ (R : A → A → Type 0) (r : A → A → Bool) where
    pub pairs_pairwise : ((x y : A) → r x y ≡ true → R x y) → (xs : List A) → pairs r xs ≡ true → Pairwise R xs
    pairs_pairwise f [] e = tt
    pairs_pairwise f (x ∷ xs) e =
        let q = each_true (each (r x) xs) (pairs r xs) e in
        (λ y m. f x y (each_all (r x) xs q.0 y m), pairs_pairwise f xs q.1)

    pub pairwise_pairs : ((x y : A) → R x y → r x y ≡ true) → (xs : List A) → Pairwise R xs → pairs r xs ≡ true
    pairwise_pairs f [] h = refl
    pairwise_pairs f (x ∷ xs) h = rw (all_each (r x) xs (λ y m. f x y (h.0 y m))) (pairwise_pairs f xs h.1)

-- All, none, and how many.

module _ {A : Type 0} (p : A → Bool) where
  pub keep_all : (xs : List A) → All (λ x. p x ≡ true) xs → keep p xs ≡ xs
  keep_all [] h = refl
  keep_all (x ∷ xs) h = rw (h x (inl refl), keep_all xs (λ y m. h y (inr m)))

  pub keep_no : (xs : List A) → All (λ x. p x ≡ false) xs → keep p xs ≡ []
  keep_no [] h = refl
  keep_no (x ∷ xs) h = rw (h x (inl refl), keep_no xs (λ y m. h y (inr m)))

  pub keep_length : (xs : List A) → length (keep p xs) ≤ length xs
  keep_length [] = omega arith
  keep_length (x ∷ xs) = go (p x) (keep_length xs)
    where
      go : (b : Bool) → length (keep p xs) ≤ length xs → length (cond b (x ∷ keep p xs) (keep p xs)) ≤ length (x ∷ xs)
      go true l = omega arith
      go false l = omega arith

module _ {A : Type 0} where
  pub map_same : (f : A → A) (xs : List A) → All (λ x. f x ≡ x) xs → map f xs ≡ xs
  map_same f [] h = refl
  map_same f (x ∷ xs) h = ap₂ ◌∷◌ (h x (inl refl)) (map_same f xs (λ y m. h y (inr m)))

  pub insert_length : (n : A → ℕ) (a : A) (xs : List A) → length (insert n a xs) ≡ suc (length xs)
  insert_length n a [] = refl
  insert_length n a (x ∷ xs) = go (ltb (n a) (n x)) (insert_length n a xs)
    where
      go : (b : Bool) → length (insert n a xs) ≡ suc (length xs) → length (cond b (a ∷ x ∷ xs) (x ∷ insert n a xs)) ≡ suc (length (x ∷ xs))
      go true e = refl
      go false e = ap suc e

  pub in_set : (x a : A) (n : ℕ) (l : List A) → In x (set l n a) → (x ≡ a) ⊎ In x l
  in_set x a zero [] m = elim m [ ]
  in_set x a (suc n) [] m = elim m [ ]
  in_set x a zero (y ∷ ys) (inl e) = inl e
  in_set x a zero (y ∷ ys) (inr m) = inr (inr m)
  in_set x a (suc n) (y ∷ ys) (inl e) = inr (inl e)
  in_set x a (suc n) (y ∷ ys) (inr m) = ⊎_elim (λ e. inl e) (λ k. inr (inr k)) (in_set x a n ys m)

  pub in_append : (x : A) (xs ys : List A) → In x (xs ++ ys) → In x xs ⊎ In x ys
  in_append x [] ys m = inr m
  in_append x (y ∷ xs) ys (inl e) = inl (inl e)
  in_append x (y ∷ xs) ys (inr m) = ⊎_elim (λ k. inl (inr k)) (λ k. inr k) (in_append x xs ys m)

  pub append_in : (x : A) (xs ys : List A) → In x xs ⊎ In x ys → In x (xs ++ ys)
  append_in x [] ys (inl m) = absurd m
  append_in x [] ys (inr m) = m
  append_in x (y ∷ xs) ys (inl (inl e)) = inl e
  append_in x (y ∷ xs) ys (inl (inr m)) = inr (append_in x xs ys (inl m))
  append_in x (y ∷ xs) ys (inr m) = inr (append_in x xs ys (inr m))

  pub asc_append : (R : A → A → Type 0) (xs ys : List A) → Pairwise R xs → Pairwise R ys → All (λ x. All (R x) ys) xs → Pairwise R (xs ++ ys)
  asc_append R [] ys h k f = k
  asc_append R (x ∷ xs) ys h k f =
      (λ z m. ⊎_elim (λ n. h.0 z n) (λ n. f x (inl refl) z n) (in_append z xs ys m), asc_append R xs ys h.1 k (λ y m. f y (inr m)))

  pub in_take : (x : A) (n : ℕ) (xs : List A) → In x (take n xs) → In x xs
  in_take x zero xs m = elim m [ ]
  in_take x (suc n) [] m = elim m [ ]
  in_take x (suc n) (y ∷ xs) (inl e) = inl e
  in_take x (suc n) (y ∷ xs) (inr m) = inr (in_take x n xs m)

  pub in_replicate : (x a : A) (n : ℕ) → In x (replicate n a) → x ≡ a
  in_replicate x a zero m = elim m [ ]
  in_replicate x a (suc n) (inl e) = e
  in_replicate x a (suc n) (inr m) = in_replicate x a n m

  pub replicated : (a : A) (xs : List A) → All (λ x. x ≡ a) xs → xs ≡ replicate (length xs) a
  replicated a [] h = refl
  replicated a (x ∷ xs) h = ap₂ ◌∷◌ (h x (inl refl)) (replicated a xs (λ y m. h y (inr m)))

  -- whether each from a place on passes a test: the one that stands there, and those behind it
  pub each_more : (p : A → Bool) (d : A) (xs : List A) (i : ℕ) → i < length xs → each p (drop i xs) ≡ (p (get_or xs i d) && each p (drop (i + 1) xs))
  each_more p d xs i h = let e : i + 1 ≡ suc i = omega arith in rw (e, drop-cons xs i d h)

-- the library's word for `each`
pub all_is_each : {A : Type 0} (p : A → Bool) (xs : List A) → list_all p xs ≡ each p xs
all_is_each p [] = refl
all_is_each p (x ∷ xs) = ap (◌&&◌ (p x)) (all_is_each p xs)
