-- Claims and rows: who claims nothing, that such a one takes nothing, and what the rows of a moment depend on.
use mathlib.Core.Path.{◌≡◌, refl, ap, ap₂, ◌∙◌}
use mathlib.Core.Logic.{inl, inr}
use Prim.Native.Nat.{ℕ, ◌<◌, ◌≤◌}
use mathlib.Core.Bool.{Bool, true, false, cond, or-true}
use mathlib.Core.List.{List, [], ◌∷◌, map, ◌++◌}
use lib.Dec.{ltb}
use borrow.Author.Tests.{lt-ltb, le-leb}
use Rattle.rules.specs.declared.Entry.{Entry}
use Rattle.rules.specs.declared.Program.{Program}
use Rattle.rules.specs.Lists.{keep, insert, All}
use Rattle.rules.specs.Records.{id_of, join}
use Rattle.rules.specs.Holding.{rank_of, better, claim, taken, held_at, Holding, end_of}
use Rattle.rules.specs.Rows.{code_at, row_of, rows_with, rows_from, ending, superseded, starting}
use Rattle.rules.proofs.Tests.{cond_same, cond_first}
use Rattle.rules.proofs.ListLaws.{in_keep, keep_cong, map_cong}
use Rattle.rules.proofs.Masks.{join_none, cut_none}

-- Claims.

pub claim_cancelled : (t : ℕ) (h : Entry) → h.cancelled ≡ true → claim t h ≡ 0
unfolding claim
claim_cancelled t h e = rw e

pub claim_ended : (t : ℕ) (h : Entry) → end_of h ≤ t → claim t h ≡ 0
unfolding claim
claim_ended t h l = rw (le-leb (end_of h) t l, or-true)

pub claim_early : (t : ℕ) (h : Entry) → t < h.begins → claim t h ≡ 0
unfolding claim
claim_early t h l = rw (lt-ltb t h.begins l, or-true)

pub code_ended : (t : ℕ) (h : Entry) (k : Holding) → end_of h < t → code_at t h k ≡ 0
unfolding code_at
code_ended t h k l = simp (lt-ltb (end_of h) t l, or-true)

pub code_cancelled : (t : ℕ) (h : Entry) (k : Holding) → h.cancelled ≡ true → code_at t h k ≡ 0
unfolding code_at
code_cancelled t h k e = cond_first h.cancelled (ltb (end_of h) t) (ltb t h.begins) 0 _ e

pub code_early : (t : ℕ) (h : Entry) (k : Holding) → t < h.begins → code_at t h k ≡ 0
unfolding code_at
code_early t h k l = simp (lt-ltb t h.begins l, or-true)

-- What claims nothing takes nothing.

module _ (ps : List Program) (t : ℕ) (h : Entry) where
  module _ {A : Type 0} (f : A → Entry) where
    pub taken_keep : (q : A → Bool) (xs : List A) → All (λ x. q x ≡ false → claim t (f x) ≡ 0) xs → taken ps t (map f (keep q xs)) h ≡ taken ps t (map f xs) h
    unfolding taken
    taken_keep q [] z = refl
    taken_keep q (x ∷ xs) z = go (q x) refl (taken_keep q xs (λ y m. z y (inr m)))
      where
        go : (b : Bool) → q x ≡ b → taken ps t (map f (keep q xs)) h ≡ taken ps t (map f xs) h
            → taken ps t (map f (cond b (x ∷ keep q xs) (keep q xs))) h ≡ join (cond (better (rank_of ps (f x).event) (rank_of ps h.event)) (claim t (f x)) 0) (taken ps t (map f xs) h)
        go true e ih = rw ih
        go false e ih = rw (z x (inl refl) e, cond_same, join_none) ih

    pub taken_insert : (n : A → ℕ) (a : A) → claim t (f a) ≡ 0 → (xs : List A) → taken ps t (map f (insert n a xs)) h ≡ taken ps t (map f xs) h
    unfolding taken
    taken_insert n a z [] = rw (z, cond_same, join_none)
    taken_insert n a z (x ∷ xs) = go (ltb (n a) (n x)) (taken_insert n a z xs)
      where
        go : (b : Bool) → taken ps t (map f (insert n a xs)) h ≡ taken ps t (map f xs) h
            → taken ps t (map f (cond b (a ∷ x ∷ xs) (x ∷ insert n a xs))) h ≡ taken ps t (map f (x ∷ xs)) h
        go true ih = rw (z, cond_same, join_none)
        go false ih = rw ih

-- Rows depend on the entries that give one, and on what those carry.

-- no kind of row is given by the code 0
abbrev pub Kind : (ℕ → Bool) → Type 0
Kind kind = kind 0 ≡ false

pub rows_eq : (t : ℕ) (now : Entry → Holding) (hs ks : List Entry)
    → ((kind : ℕ → Bool) → Kind kind → keep (λ h. kind (code_at t h (now h))) hs ≡ keep (λ h. kind (code_at t h (now h))) ks)
    → rows_from t now hs ≡ rows_from t now ks
unfolding rows_from rows_with
rows_eq t now hs ks e =
    ap₂ ◌++◌ (ap (map (row_of t now)) (e ending refl)) (ap₂ ◌++◌ (ap (map (row_of t now)) (e superseded refl)) (ap (map (row_of t now)) (e starting refl)))

pub rows_cong : (t : ℕ) (is js : Entry → Holding) (hs : List Entry) → All (λ h. is h ≡ js h) hs → rows_from t is hs ≡ rows_from t js hs
unfolding rows_from rows_with
rows_cong t is js hs e = ap₂ ◌++◌ (of ending) (ap₂ ◌++◌ (of superseded) (of starting))
  where
    of : (kind : ℕ → Bool) → rows_with t is hs kind ≡ rows_with t js hs kind
    of kind =
        ap (map (row_of t is)) (keep_cong (λ h. kind (code_at t h (is h))) (λ h. kind (code_at t h (js h))) hs (λ h m. ap (λ n. kind (code_at t h n)) (e h m)))
        ∙ map_cong (row_of t is) (row_of t js) (keep (λ h. kind (code_at t h (js h))) hs)
        (λ h m. ap (λ n. record { time = t; id = id_of h.event; code = code_at t h n }) (e h (in_keep (λ h. kind (code_at t h (js h))) h hs m).0))

pub gives_none : (t : ℕ) (now : Entry → Holding) (kind : ℕ → Bool) (h : Entry) → Kind kind → code_at t h (now h) ≡ 0 → kind (code_at t h (now h)) ≡ false
gives_none t now kind h e z = rw z e

-- what claims nothing holds nothing
pub nothing_held : (ps : List Program) (t : ℕ) (hs : List Entry) (h : Entry) → claim t h ≡ 0 → held_at ps t hs h ≡ 0
unfolding held_at
nothing_held ps t hs h e = rw (e, cut_none)
