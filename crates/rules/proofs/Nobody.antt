-- An event that holds nothing blocks nobody: what it claims, a still better event holds, and that one takes it from everybody worse too.
use mathlib.Core.Path.{◌≡◌, refl, ap}
use mathlib.Core.Logic.{◌↔◌, ◌⊎◌, inl, inr, ⊎_elim}
use Prim.Native.Nat.{ℕ, ◌≤◌}
use native.Mathlib.Omega.{arith}
use mathlib.Core.Bool.{Bool, true, false}
use mathlib.Core.List.{List, [], ◌∷◌, ◌++◌}
use lib.Bits.{bit_and, xor_add_and, and_le_r}
use Rattle.rules.specs.declared.Entry.{Entry}
use Rattle.rules.specs.declared.Program.{Program}
use Rattle.rules.specs.Lists.{In}
use Rattle.rules.specs.Records.{has, cut}
use Rattle.rules.specs.Holding.{rank_of, claim, taken, held_at}
use Rattle.rules.proofs.Tests.{both}
use Rattle.rules.proofs.Masks.{cut_within, not_has}
use Rattle.rules.proofs.Ranks.{better_self, better_trans}
use Rattle.rules.proofs.Holders.{beats, taken_has, has_taken, if_held, held_if, blocked}

-- Masks with the same controls are equal.

within_le : (a b : ℕ) → ((c : ℕ) → has a c ≡ true → has b c ≡ true) → a ≤ b
unfolding cut
within_le a b f = omega (arith, cut_within a b f, xor_add_and a (bit_and a b), and_le_r a (bit_and a b), and_le_r a b)

pub has_ext : (a b : ℕ) → ((c : ℕ) → (has a c ≡ true) ↔ (has b c ≡ true)) → a ≡ b
has_ext a b f = omega (arith, within_le a b (λ c. (f c).0), within_le b a (λ c. (f c).1))

-- One more in the middle of a list.

module _ {A : Type 0} (x y : A) (ys : List A) where
  in_more : (xs : List A) → In x (xs ++ ys) → In x (xs ++ (y ∷ ys))
  in_more [] m = inr m
  in_more (z ∷ zs) (inl e) = inl e
  in_more (z ∷ zs) (inr m) = inr (in_more zs m)

  in_less : (xs : List A) → In x (xs ++ (y ∷ ys)) → (x ≡ y) ⊎ In x (xs ++ ys)
  in_less [] m = m
  in_less (z ∷ zs) (inl e) = inr (inl e)
  in_less (z ∷ zs) (inr m) = ⊎_elim (λ e. inl e) (λ n. inr (inr n)) (in_less zs m)

module _ (ps : List Program) (t : ℕ) (before after : List Entry) (o : Entry) (none : held_at ps t (before ++ (o ∷ after)) o ≡ 0) where
  abbrev all : List Entry
  all = before ++ (o ∷ after)

  abbrev others : List Entry
  others = before ++ after

  -- a better one than o is another
  other : (b : Entry) → In b all → beats ps b o ≡ true → In b others
  other b m d = ⊎_elim (λ q. both (beats ps o o) (rw q at d) (better_self (rank_of ps o.event))) (λ n. n) (in_less b o after before m)

  -- a control that o claims is claimed by another, better than o
  instead : (c : ℕ) → has (claim t o) c ≡ true → (b : Entry) × In b others × (beats ps b o ≡ true) × (has (claim t b) c ≡ true)
  instead c e = go (has (taken ps t all o) c) refl
    where
      go : (d : Bool) → has (taken ps t all o) c ≡ d → (b : Entry) × In b others × (beats ps b o ≡ true) × (has (claim t b) c ≡ true)
      go true p = let r = blocked ps t all c o p in (r.0, other r.0 r.1 r.2, r.2, (if_held ps t all c r.0 r.3).0)
      go false p = not_has (held_at ps t all o) c none (held_if ps t all c o e p)

  taken_same : (h : Entry) → taken ps t others h ≡ taken ps t all h
  taken_same h = has_ext (taken ps t others h) (taken ps t all h) (λ c. (more c, less c))
    where
      more : (c : ℕ) → has (taken ps t others h) c ≡ true → has (taken ps t all h) c ≡ true
      more c e = let r = has_taken ps t h c others e in taken_has ps t h r.0 c all (in_more r.0 o after before r.1) r.2 r.3

      for_o : (c : ℕ) → beats ps o h ≡ true → has (claim t o) c ≡ true → has (taken ps t others h) c ≡ true
      for_o c b e =
          let r = instead c e in
          taken_has ps t h r.0 c others r.1 (better_trans (rank_of ps r.0.event) (rank_of ps o.event) (rank_of ps h.event) r.2 b) r.3

      less : (c : ℕ) → has (taken ps t all h) c ≡ true → has (taken ps t others h) c ≡ true
      less c e =
          let r = has_taken ps t h c all e in
          ⊎_elim (λ q. for_o c (rw q at r.2) (rw q at r.3)) (λ n. taken_has ps t h r.0 c others n r.2 r.3) (in_less r.0 o after before r.1)

pub blocks_nobody : (ps : List Program) (t : ℕ) (before after : List Entry) (o : Entry) → held_at ps t (before ++ (o ∷ after)) o ≡ 0
    → (h : Entry) → held_at ps t (before ++ after) h ≡ held_at ps t (before ++ (o ∷ after)) h
unfolding held_at
blocks_nobody ps t before after o none h = ap (cut (claim t h)) (taken_same ps t before after o none h)
