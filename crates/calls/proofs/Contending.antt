-- Settling with one claimant more is settling without it, and then contending: whoever the claimant is, in whatever order claimants come, and also if it claims something already and
-- now claims more.
use mathlib.Core.Path.{◌≡◌, refl, sym, ap, ◌∙◌}
use mathlib.Core.Logic.{◌↔◌, ◌⊎◌, inl, inr, ⊎_elim}
use Prim.Native.Nat.{ℕ, zero, suc, ◌<◌, ◌≤◌}
use native.Mathlib.Omega.{arith}
use native.Mathlib.Nat.{eq-or-lt_of_le}
use mathlib.Core.Bool.{Bool, true, false, cond}
use lib.Dec.{eqb}
use borrow.Author.Tests.{eqb-true, eqb-false, eq-eqb, ne_eqb}
use Rattle.rules.specs.Records.{has, cut}
use Rattle.rules.specs.Holding.{Rank, better}
use Rattle.rules.proofs.Tests.{both, each_true}
use Rattle.rules.proofs.Masks.{has_cut}
use Rattle.rules.proofs.Ranks.{better_self, better_trans, better_one}
use Rattle.calls.specs.Settled.{Unbeaten, Settled, with_claim, Contends}

-- it is this one or another
pub same : (x y : ℕ) → (x ≡ y) ⊎ (x ≡ y → ⊥)
same x y = go (eqb x y) refl
  where
    go : (b : Bool) → eqb x y ≡ b → (x ≡ y) ⊎ (x ≡ y → ⊥)
    go true p = inl (eqb-true x y p)
    go false p = inr (eqb-false x y p)

pub not_back : (x y : Rank) → better x y ≡ true → better y x ≡ false
not_back x y e = go (better y x) refl
  where
    go : (t : Bool) → better y x ≡ t → t ≡ false
    go true p = both _ (better_trans x y x e p) (better_self x)
    go false p = refl

module _ {rank : ℕ → Rank} {n : ℕ} {claims kept : ℕ → ℕ} (s : Settled rank n claims kept) where
  -- the best so far of those that claim control k: place o or a better one
  record Best (k o p : ℕ) : Type 0 where
    it : ℕ
    below : it < n
    claims_it : has (claims it) k ≡ true
    upward : (it ≡ o) ⊎ (better (rank it) (rank o) ≡ true)
    unbeaten : Unbeaten rank p claims k it

  best : (k o : ℕ) → o < n → has (claims o) k ≡ true → (p : ℕ) → p ≤ n → Best k o p
  best k o l h zero b = record { it = o; below = l; claims_it = h; upward = inl refl; unbeaten = λ x q e. absurd (omega arith) }
  best k o l h (suc p) b = go (best k o l h p (omega arith)) (has (claims p) k) refl
    where
      stay : (w : Best k o p) → (has (claims p) k ≡ true → better (rank p) (rank w.it) ≡ false) → Best k o (suc p)
      stay w f = record {
        it = w.it;
        below = w.below;
        claims_it = w.claims_it;
        upward = w.upward;
        unbeaten = λ x q e. ⊎_elim (λ z. rw z (f (rw z at e))) (λ z. w.unbeaten x z e) (eq-or-lt_of_le (omega arith));
      }

      move : (w : Best k o p) → has (claims p) k ≡ true → better (rank p) (rank w.it) ≡ true → Best k o (suc p)
      move w e d = record {
        it = p;
        below = omega arith;
        claims_it = e;
        upward = inr (⊎_elim (λ z. rw z at d) (λ z. better_trans (rank p) (rank w.it) (rank o) d z) w.upward);
        unbeaten = λ x q f. ⊎_elim (λ z. rw z (better_self (rank p))) (λ z. below_it x z f (better (rank x) (rank p)) refl) (eq-or-lt_of_le (omega arith));
      }
        where
          below_it : (x : ℕ) → x < p → has (claims x) k ≡ true → (c : Bool) → better (rank x) (rank p) ≡ c → c ≡ false
          below_it x l f true g = both _ (better_trans (rank x) (rank p) (rank w.it) g d) (w.unbeaten x l f)
          below_it x l f false g = refl

      go : (w : Best k o p) → (c : Bool) → has (claims p) k ≡ c → Best k o (suc p)
      go w false e = stay w (λ f. both _ f e)
      go w true e = over (better (rank p) (rank w.it)) refl
        where
          over : (c : Bool) → better (rank p) (rank w.it) ≡ c → Best k o (suc p)
          over true d = move w e d
          over false d = stay w (λ f. d)

  -- what a place claims, it or a better one has
  pub somebody : (k o : ℕ) → o < n → has (claims o) k ≡ true → (b : ℕ) × (b < n) × (has (kept b) k ≡ true) × ((b ≡ o) ⊎ (better (rank b) (rank o) ≡ true))
  somebody k o l h =
      let w = best k o l h n (omega arith) in
      (w.it, w.below, (s.each w.it w.below k).1 (w.claims_it, w.unbeaten), w.upward)

  -- no two have the same control, where no two ranks are the same
  pub sole : ((i j : ℕ) → i < n → j < n → (rank i).id ≡ (rank j).id → i ≡ j) → (k i j : ℕ) → i < n → j < n → has (kept i) k ≡ true → has (kept j) k ≡ true → i ≡ j
  sole d k i j p q e f = ⊎_elim (λ z. z) (λ z. apart z) (same i j)
    where
      apart : (i ≡ j → ⊥) → i ≡ j
      apart z = ⊎_elim
          (λ b. both _ b (((s.each j q k).0 f).1 i p ((s.each i p k).0 e).0))
          (λ b. both _ b (((s.each i p k).0 e).1 j q ((s.each j q k).0 f).0))
          (better_one (rank i) (rank j) (λ g. z (d i j p q g)))

  module _ {i m : ℕ} {new : ℕ → ℕ} (l : i < n) (distinct : (i j : ℕ) → i < n → j < n → (rank i).id ≡ (rank j).id → i ≡ j) (grows : (k : ℕ) → has (claims i) k ≡ true → has m k ≡ true) (c : Contends rank n i m kept new) where
    abbrev more : ℕ → ℕ
    more = with_claim i m claims

    here : more i ≡ m
    here = rw (eq-eqb i i refl)

    there : (j : ℕ) → (j ≡ i → ⊥) → more j ≡ claims j
    there j d = rw (ne_eqb j i d)

    -- place i against those that had claimed, and against those that had
    for_own : (k : ℕ) → (has (new i) k ≡ true) ↔ ((has (more i) k ≡ true) × Unbeaten rank n more k i)
    for_own k = (
      λ e. let q = (c.own k).0 e in (rw here q.0, λ o b h. ⊎_elim (λ z. rw z (better_self (rank i))) (λ z. behind q.1 o b (rw (there o z) at h) (better (rank o) (rank i)) refl) (same o i)),
      λ q. (c.own k).1 (rw here at q.0, λ o b h. ⊎_elim (λ z. rw z (better_self (rank i))) (λ z. q.1 o b (rw (there o z) ((s.each o b k).0 h).0)) (same o i)),
    )
      where
        behind : Unbeaten rank n kept k i → (o : ℕ) → o < n → has (claims o) k ≡ true → (x : Bool) → better (rank o) (rank i) ≡ x → x ≡ false
        behind u o b h true g =
            let w = somebody k o b h in
            both _ (⊎_elim (λ z. rw z g) (λ z. better_trans (rank w.0) (rank o) (rank i) z g) w.3) (u w.0 w.1 w.2)
        behind u o b h false g = refl

    module _ (j k : ℕ) (b : j < n) (d : j ≡ i → ⊥) where
      kept_on : has (new j) k ≡ true → (has (kept j) k ≡ true) × (has m k ≡ true → better (rank i) (rank j) ≡ false)
      kept_on e = go (better (rank j) (rank i)) refl (rw (c.others j b d) at e)
        where
          go : (x : Bool) → better (rank j) (rank i) ≡ x → has (cond x (kept j) (cut (kept j) m)) k ≡ true → (has (kept j) k ≡ true) × (has m k ≡ true → better (rank i) (rank j) ≡ false)
          go true g e = (e, λ h. not_back (rank j) (rank i) g)
          go false g e = let q = each_true _ _ (rw has_cut at e) in (q.0, λ h. both true refl (rw h at (sym q.1)))

      on_kept : has (kept j) k ≡ true → (has m k ≡ true → better (rank i) (rank j) ≡ false) → has (new j) k ≡ true
      on_kept e f = rw (c.others j b d) (go (better (rank j) (rank i)) (has m k) refl refl)
        where
          go : (x y : Bool) → better (rank j) (rank i) ≡ x → has m k ≡ y → has (cond x (kept j) (cut (kept j) m)) k ≡ true
          go true y g h = e
          go false false g h = rw (has_cut, e, h)
          go false true g h = ⊎_elim (λ z. both _ z g) (λ z. both _ z (f h)) (better_one (rank j) (rank i) (λ z. d (distinct j i b l z)))

      for_others : (has (new j) k ≡ true) ↔ ((has (more j) k ≡ true) × Unbeaten rank n more k j)
      for_others = (
        λ e. let q = kept_on e in let z = (s.each j b k).0 q.0 in
            (rw (there j d) z.0, λ o a h. ⊎_elim (λ y. rw y (q.1 (rw (y, here) at h))) (λ y. z.1 o a (rw (there o y) at h)) (same o i)),
        λ q. on_kept ((s.each j b k).1 (rw (there j d) at q.0, λ o a h. ⊎_elim (λ y. rw y (q.1 i l (rw here (grows k (rw y at h))))) (λ y. q.1 o a (rw (there o y) h)) (same o i))) (λ h. q.1 i l (rw here h)),
      )

    -- the law
    pub one_more : Settled rank n more new
    one_more = record { each = λ j b k. ⊎_elim (λ z. rw z (for_own k)) (λ z. for_others j k b z) (same j i) }

-- claims that are the same at the first n places
pub settled_on : {rank : ℕ → Rank} {n : ℕ} {a b kept : ℕ → ℕ} → Settled rank n a kept → ((i : ℕ) → i < n → a i ≡ b i) → Settled rank n b kept
settled_on {rank} {n} {a} {b} {kept} s e = record {
  each = λ i l k. (
    λ h. let q = (s.each i l k).0 h in (ap (λ m. has m k) (sym (e i l)) ∙ q.0, λ o m f. q.1 o m (ap (λ m. has m k) (e o m) ∙ f)),
    λ q. (s.each i l k).1 (ap (λ m. has m k) (e i l) ∙ q.0, λ o m f. q.1 o m (ap (λ m. has m k) (sym (e o m)) ∙ f)),
  );
}
