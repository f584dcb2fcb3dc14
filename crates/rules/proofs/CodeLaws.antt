-- When an entry gives which code: 2, 7 and those of an end each in a case of their own, and 0 in every other.
use mathlib.Core.Path.{◌≡◌, refl, sym, ap, ◌∙◌}
use mathlib.Core.Logic.{◌⊎◌, inl, inr}
use Prim.Native.Nat.{ℕ, ◌<◌, ◌≤◌}
use mathlib.Core.Bool.{Bool, true, false, cond, not, ◌||◌, or-true}
use native.Mathlib.Omega.{arith}
use lib.Dec.{ltb, eqb}
use borrow.Author.Tests.{ltb-true, ltb-false, le-ltb, eqb-true, eqb-false, eq-eqb, ne_eqb}
use Rattle.rules.specs.declared.Choice.{Choice}
use Rattle.rules.specs.declared.Entry.{Entry}
use Rattle.rules.specs.Holding.{Holding, end_of}
use Rattle.rules.specs.Rows.{end_code, code_at, ending}
use Rattle.rules.proofs.Tests.{both, cond_same}
use Rattle.rules.proofs.Claims.{code_ended, code_cancelled, code_early}

-- whatever the choices were, an end gives a code of its kind
pub end_code_lem : (c : Choice) → ending (end_code c) ≡ true
unfolding end_code
end_code_lem c = go c.out c.was_in c.was_out
  where
    go : (o i w : Bool) → ending (cond (not w) 3 (cond (not i) 10 (cond o 8 9))) ≡ true
    go o i false = refl
    go o false true = refl
    go true true true = refl
    go false true true = refl

-- so it gives no other
not_end_code : (c : Choice) (n : ℕ) → ending n ≡ false → end_code c ≡ n → ⊥
not_end_code c n f e = both (ending n) (sym (ap ending e) ∙ end_code_lem c) f

module _ (t : ℕ) (h : Entry) (now : Holding) where
  -- it starts, and holds something
  pub record Starts : Type 0 where
    pub standing : h.cancelled ≡ false
    pub begins : h.begins ≡ t
    pub lasts : t < end_of h
    pub holds : now.held ≡ 0 → ⊥

  -- it ends, and held something
  pub record Ends : Type 0 where
    pub standing : h.cancelled ≡ false
    pub ends : end_of h ≡ t
    pub begun : h.begins ≤ t
    pub held : h.held ≡ 0 → ⊥

  -- it goes on with nothing, and just started or held something
  pub record Loses : Type 0 where
    pub standing : h.cancelled ≡ false
    pub begun : h.begins ≤ t
    pub lasts : t < end_of h
    pub none : now.held ≡ 0
    pub cause : (h.begins ≡ t) ⊎ (h.held ≡ 0 → ⊥)

  -- The codes.

  pub code_starts : Starts → code_at t h now ≡ 2
  unfolding code_at
  code_starts v =
      simp (
        v.standing,
        le-ltb (end_of h) t (omega arith),
        le-ltb t h.begins (omega arith),
        ne_eqb (end_of h) t (omega arith),
        eq-eqb h.begins t v.begins,
        ne_eqb now.held 0 v.holds,
      )

  pub code_ends : Ends → code_at t h now ≡ end_code h.choice
  unfolding code_at
  code_ends v =
      simp (
        v.standing,
        le-ltb (end_of h) t (omega arith),
        le-ltb t h.begins (omega arith),
        eq-eqb (end_of h) t v.ends,
        ne_eqb h.held 0 v.held,
      )

  pub code_loses : Loses → code_at t h now ≡ 7
  unfolding code_at
  code_loses v =
      simp (
        v.standing,
        le-ltb (end_of h) t (omega arith),
        le-ltb t h.begins (omega arith),
        ne_eqb (end_of h) t (omega arith),
        eq-eqb now.held 0 v.none,
      )
      (go (eqb h.begins t) refl v.cause)
    where
      go : (b : Bool) → eqb h.begins t ≡ b → (h.begins ≡ t) ⊎ (h.held ≡ 0 → ⊥) → cond {A = ℕ} b 7 (cond (eqb h.held 0 || not true) 0 7) ≡ 7
      go true e c = refl
      go false e (inl q) = absurd (eqb-false h.begins t e q)
      go false e (inr n) = simp (ne_eqb h.held 0 n)

  -- it ends and held nothing
  code_nothing_ends : end_of h ≡ t → h.held ≡ 0 → code_at t h now ≡ 0
  unfolding code_at
  code_nothing_ends e z = simp (eq-eqb (end_of h) t e, eq-eqb h.held 0 z, cond_same)

  -- it goes on as it was, with nothing or with something
  code_nothing : (end_of h ≡ t → ⊥) → (h.begins ≡ t → ⊥) → h.held ≡ 0 → code_at t h now ≡ 0
  unfolding code_at
  code_nothing e b z = simp (ne_eqb (end_of h) t e, ne_eqb h.begins t b, eq-eqb h.held 0 z, cond_same)

  code_goes_on : (end_of h ≡ t → ⊥) → (h.begins ≡ t → ⊥) → (now.held ≡ 0 → ⊥) → code_at t h now ≡ 0
  unfolding code_at
  code_goes_on e b n = simp (ne_eqb (end_of h) t e, ne_eqb h.begins t b, ne_eqb now.held 0 n, or-true, cond_same)

  -- The cases.

  data GivenCode : Type 0 where
    silent : code_at t h now ≡ 0 → GivenCode
    starts : code_at t h now ≡ 2 → Starts → GivenCode
    ends : code_at t h now ≡ end_code h.choice → Ends → GivenCode
    loses : code_at t h now ≡ 7 → Loses → GivenCode

  told : GivenCode
  told =
      go h.cancelled (ltb (end_of h) t) (ltb t h.begins) (eqb (end_of h) t) (eqb h.begins t) (eqb h.held 0) (eqb now.held 0) refl refl refl refl refl refl refl
    where
      starting : Starts → GivenCode
      starting v = starts (code_starts v) v

      ending : Ends → GivenCode
      ending v = ends (code_ends v) v

      losing : Loses → GivenCode
      losing v = loses (code_loses v) v

      lasting : ltb (end_of h) t ≡ false → eqb (end_of h) t ≡ false → t < end_of h
      lasting o f = let l = ltb-false (end_of h) t o in let n = eqb-false (end_of h) t f in omega arith

      go : (gone over early end start old new : Bool) → h.cancelled ≡ gone → ltb (end_of h) t ≡ over → ltb t h.begins ≡ early
          → eqb (end_of h) t ≡ end → eqb h.begins t ≡ start → eqb h.held 0 ≡ old → eqb now.held 0 ≡ new → GivenCode
      go true over early end start old new g o e f b d n = silent (code_cancelled t h now g)
      go false true early end start old new g o e f b d n = silent (code_ended t h now (ltb-true (end_of h) t o))
      go false false true end start old new g o e f b d n = silent (code_early t h now (ltb-true t h.begins e))
      go false false false true start true new g o e f b d n = silent (code_nothing_ends (eqb-true (end_of h) t f) (eqb-true h.held 0 d))
      go false false false true start false new g o e f b d n =
          ending (record { standing = g; ends = eqb-true (end_of h) t f; begun = ltb-false t h.begins e; held = eqb-false h.held 0 d })
      go false false false false true old true g o e f b d n =
          losing (record { standing = g; begun = ltb-false t h.begins e; lasts = lasting o f; none = eqb-true now.held 0 n; cause = inl (eqb-true h.begins t b) })
      go false false false false true old false g o e f b d n =
          starting (record { standing = g; begins = eqb-true h.begins t b; lasts = lasting o f; holds = eqb-false now.held 0 n })
      go false false false false false true new g o e f b d n = silent (code_nothing (eqb-false (end_of h) t f) (eqb-false h.begins t b) (eqb-true h.held 0 d))
      go false false false false false false true g o e f b d n =
          losing (record { standing = g; begun = ltb-false t h.begins e; lasts = lasting o f; none = eqb-true now.held 0 n; cause = inr (eqb-false h.held 0 d) })
      go false false false false false false false g o e f b d n = silent (code_goes_on (eqb-false (end_of h) t f) (eqb-false h.begins t b) (eqb-false now.held 0 n))

  -- A code says its case.

  pub is_start_lem : code_at t h now ≡ 2 → Starts
  is_start_lem e = go told
    where
      go : GivenCode → Starts
      go (silent z) = absurd (eqb-false 0 2 refl (sym z ∙ e))
      go (starts z v) = v
      go (ends z v) = absurd (not_end_code h.choice 2 refl (sym z ∙ e))
      go (loses z v) = absurd (eqb-false 7 2 refl (sym z ∙ e))

  pub is_end_lem : ending (code_at t h now) ≡ true → Ends
  is_end_lem e = go told
    where
      go : GivenCode → Ends
      go (silent z) = both (ending 0) (sym (ap ending z) ∙ e) refl
      go (starts z v) = both (ending 2) (sym (ap ending z) ∙ e) refl
      go (ends z v) = v
      go (loses z v) = both (ending 7) (sym (ap ending z) ∙ e) refl

  pub is_loss : code_at t h now ≡ 7 → Loses
  is_loss e = go told
    where
      go : GivenCode → Loses
      go (silent z) = absurd (eqb-false 0 7 refl (sym z ∙ e))
      go (starts z v) = absurd (eqb-false 2 7 refl (sym z ∙ e))
      go (ends z v) = absurd (not_end_code h.choice 7 refl (sym z ∙ e))
      go (loses z v) = v

  pub one_of_four : (code_at t h now ≡ 0) ⊎ ((code_at t h now ≡ 2) ⊎ ((ending (code_at t h now) ≡ true) ⊎ (code_at t h now ≡ 7)))
  one_of_four = go told
    where
      go : GivenCode → (code_at t h now ≡ 0) ⊎ ((code_at t h now ≡ 2) ⊎ ((ending (code_at t h now) ≡ true) ⊎ (code_at t h now ≡ 7)))
      go (silent z) = inl z
      go (starts z v) = inr (inl z)
      go (ends z v) = inr (inr (inl (ap ending z ∙ end_code_lem h.choice)))
      go (loses z v) = inr (inr (inr z))
