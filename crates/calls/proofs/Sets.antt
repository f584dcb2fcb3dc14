-- Sets of places and masks of controls, bit by bit: one bit cut, flipped and found; the lowest; the places of a set in order; and the set of holders when one place gets another mask.
use mathlib.Core.Path.{◌≡◌, refl, sym, ap, ◌∙◌}
use Prim.Native.Nat.{ℕ, zero, suc, ◌+◌, ◌-◌, ◌*◌, ◌/◌, ◌%◌, ◌^◌, ◌<◌, ◌≤◌}
use native.Mathlib.Nat.{one-mul, pow-suc, div-eq_of_lt, lt_of_not-le, eq-or-lt_of_le}
use native.Mathlib.Omega.{arith}
use mathlib.Core.Bool.{Bool, true, false, and-true, and-false, cond, not, ◌&&◌, ◌||◌, or-true, or-false}
use lib.Pow.{pow-add, pow-lt, pow_mono, pow_pos, shl-shr, shl_exact}
use lib.Bits.{bit_and, bit_xor, and_le_r, xor_add_and, bit_or, and_self}
use lib.Count.{count_trailing_zeros, under}
use lib.Dec.{ltb, eqb}
use borrow.Author.Tests.{ltb-true, ltb-false, ne_eqb, eqb-true, eqb-false, eq-eqb}
use mathlib.Core.Logic.{◌↔◌, ◌⊎◌, inl, inr, ⊎_elim}
use mathlib.Core.List.{List, [], ◌∷◌, ◌++◌, map, append-nil}
use lib.ListN.{length, get_or, length-append, length-map, get_or-append}
use lib.Seq.{ext_get_or, get_or_at}
use Rattle.rules.specs.declared.Entry.{Entry}
use Rattle.std.proofs.lemmas.Nat.{and-not, and_comm, and_assoc}
use Rattle.rules.specs.Records.{has, cut, join}
use Rattle.rules.specs.Lists.{keep, In, All}
use Rattle.rules.proofs.Tests.{both, each_true}
use Rattle.rules.proofs.Masks.{has_and, has_cut, has_half, odd, has_join, has_none}
use Rattle.rules.proofs.ListLaws.{in_append, keep_no}
use Rattle.rules.proofs.Nobody.{has_ext}
use Rattle.calls.specs.Sets.{places_to, mask_at, SetOf, Lowest, Holders, Masked, Kept}
use Rattle.calls.proofs.Slots.{at_map}
use Rattle.calls.proofs.Contending.{same}

-- One bit.

-- what is too small for a control has it not
has_above : (m k : ℕ) → m < 2 ^ k → has m k ≡ false
unfolding has
has_above m k l = rw (div-eq_of_lt l)

pub has_self : (c : ℕ) → has (2 ^ c) c ≡ true
unfolding has
has_self c = rw (rw one-mul at (shl-shr 1 c))

has_below : (j k : ℕ) → has (2 ^ (suc j + k)) k ≡ false
unfolding has
has_below j k = rw (pow-add 2 (suc j) k, shl-shr (2 ^ suc j) k, pow-suc 2 j) (ne_eqb _ 1 (λ (e : 2 ^ j * 2 % 2 ≡ 1). omega arith))

pub has_only : (c k : ℕ) → has (2 ^ c) k ≡ true → k ≡ c
has_only c k e = go (ltb c k) (ltb k c) refl refl
  where
    go : (a b : Bool) → ltb c k ≡ a → ltb k c ≡ b → k ≡ c
    go true b p q = both (has (2 ^ c) k) e (has_above (2 ^ c) k (pow-lt (ltb-true c k p)))
    go false true p q =
        let l = ltb-true k c q in
        both (has (2 ^ c) k) e (ap (λ x. has (2 ^ x) k) (omega arith) ∙ has_below (c - k - 1) k)
    go false false p q = omega (arith, ltb-false c k p, ltb-false k c q)

pub not_only : (c k : ℕ) → (k ≡ c → ⊥) → has (2 ^ c) k ≡ false
not_only c k d = go (has (2 ^ c) k) refl
  where
    go : (b : Bool) → has (2 ^ c) k ≡ b → b ≡ false
    go true p = absurd (d (has_only c k p))
    go false p = refl

pub cut_same : (m c : ℕ) → has (cut m (2 ^ c)) c ≡ false
cut_same m c = rw (has_cut, has_self, and-false)

pub cut_other : (m c k : ℕ) → (k ≡ c → ⊥) → has (cut m (2 ^ c)) k ≡ has m k
cut_other m c k d = rw (has_cut, not_only c k d, and-true)

-- The lowest control of a mask, and a control that is flipped.

pub has_lowest : (w m : ℕ) → 0 < m → m < 2 ^ w → has m (count_trailing_zeros w m) ≡ true
unfolding count_trailing_zeros
has_lowest zero m p l = absurd (omega arith)
has_lowest (suc w) m p l = go (m % 2) refl (λ e. has_lowest w (m / 2) (omega arith) (omega (arith, pow-suc 2 w)))
  where
    go : (d : ℕ) → m % 2 ≡ d → (m % 2 ≡ 0 → has (m / 2) (count_trailing_zeros w (m / 2)) ≡ true) → has m (under d (count_trailing_zeros w (m / 2))) ≡ true
    go zero e half = sym (has_half m _) ∙ half e
    go (suc d) e half = odd m (omega arith)

-- a mask is no less than a control of it
has_least : (m k : ℕ) → has m k ≡ true → 2 ^ k ≤ m
has_least m k e = go (ltb m (2 ^ k)) refl
  where
    go : (b : Bool) → ltb m (2 ^ k) ≡ b → 2 ^ k ≤ m
    go true p = both _ e (has_above m k (ltb-true m (2 ^ k) p))
    go false p = ltb-false m (2 ^ k) p

-- a mask of w bits has controls below w alone
pub has_within : (w m k : ℕ) → m < 2 ^ w → has m k ≡ true → k < w
has_within w m k l e = lt_of_not-le (λ h. omega (arith, has_least m k e, pow_mono h))

-- a control that a mask has is cut from it when it is flipped
module _ (m c : ℕ) (e : has m c ≡ true) where
  -- the two have the control in common
  shared : bit_and m (2 ^ c) ≡ 2 ^ c
  shared = omega (arith, and_le_r m (2 ^ c), has_least _ c (has_and m (2 ^ c) c ∙ rw (e, has_self c)))

  flipped : bit_xor m (2 ^ c) ≡ cut m (2 ^ c)
  unfolding cut
  flipped = sym (ap (bit_xor m) shared)

  pub flip_same : has (bit_xor m (2 ^ c)) c ≡ false
  flip_same = rw flipped (cut_same m c)

  pub flip_other : (k : ℕ) → (k ≡ c → ⊥) → has (bit_xor m (2 ^ c)) k ≡ has m k
  flip_other k d = rw flipped (cut_other m c k d)

  pub flip_less : bit_xor m (2 ^ c) < m
  flip_less = omega (arith, xor_add_and m (2 ^ c), shared, pow_pos c)

-- a set without another, as the machine has it at w bits
pub and_not : (w a b : ℕ) → a < 2 ^ w → b < 2 ^ w → bit_and a (2 ^ w - 1 - b) ≡ cut a b
unfolding cut
and_not w a b l m =
    let shared : bit_and a (bit_and a b) ≡ bit_and a b = sym (and_assoc b a a) ∙ ap (λ x. bit_and x b) (and_self a) in
    omega (arith, and_comm a (2 ^ w - 1 - b), and-not w b a m l, and_comm a b, xor_add_and a (bit_and a b), shared)

-- Lists and places.

pub keep_append : {A : Type 0} (p : A → Bool) (xs ys : List A) → keep p (xs ++ ys) ≡ keep p xs ++ keep p ys
keep_append p [] ys = refl
keep_append p (x ∷ xs) ys = go (p x) (keep_append p xs ys)
  where
    go : (b : Bool) → keep p (xs ++ ys) ≡ keep p xs ++ keep p ys → cond b (x ∷ keep p (xs ++ ys)) (keep p (xs ++ ys)) ≡ cond b (x ∷ keep p xs) (keep p xs) ++ keep p ys
    go true ih = ap (◌∷◌ x) ih
    go false ih = ih

pub places_length : (n : ℕ) → length (places_to n) ≡ n
unfolding places_to
places_length zero = refl
places_length (suc n) = length-append (places_to n) (n ∷ []) ∙ omega (arith, places_length n)

pub place_below : (n i : ℕ) → In i (places_to n) → i < n
unfolding places_to
place_below zero i m = elim m [ ]
place_below (suc n) i m = ⊎_elim (λ q. omega (arith, place_below n i q)) (λ q. ⊎_elim (λ e. omega arith) (λ z. absurd z) q) (in_append i (places_to n) (n ∷ []) m)

place_at : (n i : ℕ) → i < n → get_or (places_to n) i 0 ≡ i
unfolding places_to
place_at zero i l = elim l [ ]
place_at (suc n) i l = go (eqb i n) refl (λ q. place_at n i q)
  where
    go : (b : Bool) → eqb i n ≡ b → (i < n → get_or (places_to n) i 0 ≡ i) → get_or (places_to n ++ (n ∷ [])) i 0 ≡ i
    go true e ih = let q = eqb-true i n e in rw q (get_or_at (places_to n) n [] 0 n (places_length n))
    go false e ih = let q = eqb-false i n e in get_or-append (places_to n) (n ∷ []) 0 i (omega (arith, places_length n)) ∙ ih (omega arith)

-- a list place by place
pub by_place : {A : Type 0} (d : A) (f : ℕ → A) (us : List A) (n : ℕ) → length us ≡ n → ((i : ℕ) → i < n → get_or us i d ≡ f i) → us ≡ map f (places_to n)
by_place d f us n e h =
    let many = length-map (places_to n) f ∙ places_length n in
    ext_get_or d us (map f (places_to n)) (e ∙ sym many)
    (λ i l. let b : i < n = omega arith in h i b ∙ sym (at_map f 0 d (places_to n) i (omega (arith, places_length n)) ∙ ap f (place_at n i b)))

-- places past the last that passes a test do not count
pub keep_places : (p : ℕ → Bool) (n d : ℕ) → ((i : ℕ) → p i ≡ true → i < n) → keep p (places_to (d + n)) ≡ keep p (places_to n)
unfolding places_to
keep_places p n zero f = let e : 0 + n ≡ n = omega arith in rw e
keep_places p n (suc d) f =
    let e : suc d + n ≡ suc (d + n) = omega arith in
    rw (e, keep_append p (places_to (d + n)) ((d + n) ∷ []), keep_places p n d f) (go (p (d + n)) refl)
  where
    go : (b : Bool) → p (d + n) ≡ b → keep p (places_to n) ++ cond b ((d + n) ∷ []) [] ≡ keep p (places_to n)
    go true q = absurd (omega (arith, f (d + n) q))
    go false q = append-nil (keep p (places_to n))

-- the first that passes a test, and then the others
first_place : (p q : ℕ → Bool) (i : ℕ) → p i ≡ true → ((j : ℕ) → j < i → p j ≡ false) → q i ≡ false → ((j : ℕ) → (j ≡ i → ⊥) → q j ≡ p j)
    → (m : ℕ) → i < m → keep p (places_to m) ≡ i ∷ keep q (places_to m)
unfolding places_to
first_place p q i a b c d zero l = elim l [ ]
first_place p q i a b c d (suc m) l =
    keep_append p (places_to m) (m ∷ []) ∙ ⊎_elim at_last (before (λ z. first_place p q i a b c d m z)) (same m i) ∙ ap (◌∷◌ i) (sym (keep_append q (places_to m) (m ∷ [])))
  where
    at_last : m ≡ i → keep p (places_to m) ++ keep p (m ∷ []) ≡ i ∷ (keep q (places_to m) ++ keep q (m ∷ []))
    at_last e =
        let none : All (λ j. p j ≡ false) (places_to m) = λ j n. b j (omega (arith, place_below m j n)) in
        let others : All (λ j. q j ≡ false) (places_to m) = λ j n. let z = place_below m j n in d j (λ y. omega arith) ∙ b j (omega arith) in
        rw (keep_no p (places_to m) none, keep_no q (places_to m) others, e, a, c)

    before : (i < m → keep p (places_to m) ≡ i ∷ keep q (places_to m)) → (m ≡ i → ⊥) → keep p (places_to m) ++ keep p (m ∷ []) ≡ i ∷ (keep q (places_to m) ++ keep q (m ∷ []))
    before ih e = rw (ih (omega arith), d m e)

-- The lowest place of a set, or the lowest control of a mask, of so many bits.

lowest_first : (width m i : ℕ) → i < count_trailing_zeros width m → has m i ≡ false
unfolding count_trailing_zeros has
lowest_first zero m i l = absurd (omega arith)
lowest_first (suc width) m i l = go (m % 2) refl i (λ j. lowest_first width (m / 2) j) l
  where
    go : (d : ℕ) → m % 2 ≡ d → (i : ℕ) → ((j : ℕ) → j < count_trailing_zeros width (m / 2) → has (m / 2) j ≡ false) → i < under d (count_trailing_zeros width (m / 2)) → has m i ≡ false
    go zero e zero ih l = ne_eqb _ 1 (λ (z : m / 1 % 2 ≡ 1). omega arith)
    go zero e (suc j) ih l = sym (has_half m j) ∙ ih j (omega arith)
    go (suc d) e i ih l = absurd (omega arith)

-- the lowest place of a set
pub lowest : (set : ℕ) → set < 2 ^ 64 → (set ≡ 0 → ⊥) → Lowest set (count_trailing_zeros 64 set) (bit_xor set (1 * 2 ^ count_trailing_zeros 64 set % 2 ^ 64))
lowest set l some =
    let place = count_trailing_zeros 64 set in
    let here = has_lowest 64 set (omega arith) l in
    let alone : 1 * 2 ^ place % 2 ^ 64 ≡ 2 ^ place = shl_exact {a = 1} 1 place 64 (omega arith) (omega (arith, has_within 64 set place l here)) ∙ one-mul (2 ^ place) in
    record {
      here = here;
      first = lowest_first 64 set;
      gone = rw alone (flip_same set place here);
      others = rw alone (flip_other set place here);
      less = rw alone (flip_less set place here);
    }

module _ {set : ℕ} {place later : ℕ} (n : Lowest set place later) where
  -- what is left was there
  pub still : (k : ℕ) → has later k ≡ true → has set k ≡ true
  still k e = ⊎_elim (λ q. both (has later k) e (rw q n.gone)) (λ d. sym (n.others k d) ∙ e) (same k place)

  -- what is not left is the lowest, or was not there
  pub or_lowest : (k : ℕ) → has later k ≡ false → (k ≡ place) ⊎ (has set k ≡ false)
  or_lowest k e = ⊎_elim (λ q. inl q) (λ q. inr (sym (n.others k q) ∙ e)) (same k place)

  pub in_order : (m : ℕ) → place < m → keep (has set) (places_to m) ≡ place ∷ keep (has later) (places_to m)
  in_order m l = first_place (has set) (has later) place n.here n.first n.gone n.others m l

-- Controls cut from a mask one by one: those of `rest` are left to cut.

pub record Cutting (mask other left rest : ℕ) : Type 0 where
  pub shared : (k : ℕ) → has rest k ≡ true → (has mask k ≡ true) × (has other k ≡ true)
  pub so_far : (k : ℕ) → has left k ≡ (has mask k && (not (has other k) || has rest k))

pub none_cut : (mask other : ℕ) → Cutting mask other mask (bit_and mask other)
none_cut mask other = record {
  shared = λ k e. each_true (has mask k) (has other k) (sym (has_and mask other k) ∙ e);
  so_far = λ k. rw (has_and mask other k) (go (has mask k) (has other k));
}
  where
    go : (a b : Bool) → a ≡ (a && (not b || (a && b)))
    go true true = refl
    go true false = refl
    go false b = refl

pub one_cut : {mask other left rest : ℕ} → Cutting mask other left rest → {place later : ℕ} → Lowest rest place later → Cutting mask other (cut left (2 ^ place)) later
one_cut {mask} {other} {left} c {place} {later} n = record {
  shared = λ k e. c.shared k (still n k e);
  so_far = λ k. ⊎_elim (λ q. rw q here) (λ d. cut_other left place k d ∙ c.so_far k ∙ (rw (n.others k d))) (same k place);
}
  where
    here : has (cut left (2 ^ place)) place ≡ (has mask place && (not (has other place) || has later place))
    here = cut_same left place ∙ sym (rw ((c.shared place n.here).1, n.gone) (and-false (has mask place)))

pub all_cut : (mask other : ℕ) {left rest : ℕ} → Cutting mask other left rest → rest ≡ 0 → left ≡ cut mask other
all_cut mask other {left} c e =
    has_ext left (cut mask other) (λ k. let q = c.so_far k ∙ (rw (e, has_none, or-false) (sym (has_cut mask other k))) in (λ h. sym q ∙ h, λ h. q ∙ h))

-- A set built place by place.

module _ (P : ℕ → Type 0) (i set : ℕ) (s : SetOf i P set) where
  pub set_more : P i → SetOf (i + 1) P (bit_or set (2 ^ i))
  unfolding join
  set_more p j = rw (has_join set (2 ^ i) j) (
    λ e. go (has set j) refl e,
    λ q. ⊎_elim (λ z. rw ((s j).1 (z, q.1))) (λ z. ap (λ b. has set j || b) (ap (has (2 ^ i)) z ∙ has_self i) ∙ or-true (has set j)) (below_or j q.0),
  )
    where
      below_or : (j : ℕ) → j < i + 1 → (j < i) ⊎ (j ≡ i)
      below_or j l = ⊎_elim (λ z. inr z) (λ z. inl z) (eq-or-lt_of_le (omega arith))

      go : (b : Bool) → has set j ≡ b → (b || has (2 ^ i) j) ≡ true → (j < i + 1) × P j
      go true e f = let q = (s j).0 e in (omega (arith, q.0), q.1)
      go false e f = let q = has_only i j f in (omega arith, rw q p)

  pub set_skip : (P i → ⊥) → SetOf (i + 1) P set
  set_skip n j = (
    λ e. let q = (s j).0 e in (omega (arith, q.0), q.1),
    λ q. (s j).1 (⊎_elim (λ z. absurd (n (rw z at q.1))) (λ z. z) (eq-or-lt_of_le (omega arith)), q.1),
  )

-- The set of holders, when one place gets another mask.

module _ (holding i mask : ℕ) where
  cut_there : (j : ℕ) → has (cut holding (2 ^ i)) j ≡ cond (eqb j i) false (has holding j)
  cut_there j = go (eqb j i) refl
    where
      go : (b : Bool) → eqb j i ≡ b → has (cut holding (2 ^ i)) j ≡ cond b false (has holding j)
      go true e = let q = eqb-true j i e in rw q (cut_same holding i)
      go false e = cut_other holding i j (eqb-false j i e)

  pub kept_out : mask ≡ 0 → Kept i mask holding (cut holding (2 ^ i))
  kept_out e = record { each = λ j. rw (eq-eqb mask 0 e) (cut_there j) }

  pub kept_in : (mask ≡ 0 → ⊥) → Kept i mask holding (bit_or (cut holding (2 ^ i)) (2 ^ i))
  unfolding join
  kept_in d = record { each = λ j. rw (ne_eqb mask 0 d) (has_join (cut holding (2 ^ i)) (2 ^ i) j ∙ ap (λ b. b || has (2 ^ i) j) (cut_there j) ∙ go j (eqb j i) refl) }
    where
      go : (j : ℕ) (b : Bool) → eqb j i ≡ b → (cond b false (has holding j) || has (2 ^ i) j) ≡ cond b true (has holding j)
      go j true e = let q = eqb-true j i e in rw q (has_self i)
      go j false e = rw (not_only i j (eqb-false j i e), or-false)

  pub holders_kept : {n : ℕ} {old new : List Entry} {after : ℕ} → Holders n old holding → i < n → Masked i mask old new → Kept i mask holding after → Holders n new after
  holders_kept {n} {old} {new} {after} h l m c j = ⊎_elim (λ e. rw e here) (λ d. there d) (same j i)
    where
      is : mask_at new i ≡ mask
      is = ap (λ x. x.held) m.here

      here : (has after i ≡ true) ↔ ((i < n) × (mask_at new i ≡ 0 → ⊥))
      here = (
        λ e. (l, λ z. both (has after i) e (c.each i ∙ (rw (eq-eqb i i refl, eq-eqb mask 0 (sym is ∙ z))))),
        λ q. c.each i ∙ (rw (eq-eqb i i refl, ne_eqb mask 0 (λ z. q.1 (is ∙ z)))),
      )

      there : (j ≡ i → ⊥) → (has after j ≡ true) ↔ ((j < n) × (mask_at new j ≡ 0 → ⊥))
      there d =
          let e : has after j ≡ has holding j = c.each j ∙ (rw (ne_eqb j i d)) in
          let f : mask_at new j ≡ mask_at old j = ap (λ x. x.held) (m.others j d) in
          (λ p. let q = (h j).0 (sym e ∙ p) in (q.0, λ z. q.1 (sym f ∙ z)), λ q. e ∙ (h j).1 (q.0, λ z. q.1 (f ∙ z)))
