-- Who holds a control at a moment: the best of those that claim it. So what a better event claims, a better event holds.
use mathlib.Core.Path.{◌≡◌, refl, sym, ap, ◌∙◌, subst}
use mathlib.Core.Logic.{◌↔◌, ◌⊎◌, inl, inr}
use Prim.Native.Nat.{ℕ, ◌<◌}
use mathlib.Core.Bool.{Bool, true, false, cond, not, ◌||◌, or-true}
use mathlib.Core.List.{List, [], ◌∷◌}
use native.Mathlib.Omega.{arith}
use lib.Dec.{ltb, leb, eqb}
use borrow.Author.Tests.{eqb-true}
use Rattle.rules.specs.declared.Entry.{Entry}
use Rattle.rules.specs.declared.Program.{Program}
use Rattle.rules.specs.Lists.{In, All}
use Rattle.rules.specs.Records.{has}
use Rattle.rules.specs.Holding.{rank_of, better, claim, taken, held_at, end_of}
use Rattle.rules.proofs.Tests.{both, each_true}
use Rattle.rules.proofs.Masks.{has_cut, has_join, has_none, not_has}
use Rattle.rules.proofs.Ranks.{better_self, better_trans}

-- an event is better than another, with these programs
abbrev pub beats : List Program → Entry → Entry → Bool
beats ps a b = better (rank_of ps a.event) (rank_of ps b.event)

-- what a better one claims is taken
pub taken_has : (ps : List Program) (t : ℕ) (h o : Entry) (c : ℕ) (hs : List Entry) → In o hs → beats ps o h ≡ true → has (claim t o) c ≡ true → has (taken ps t hs h) c ≡ true
unfolding taken
taken_has ps t h o c [] m b e = elim m [ ]
taken_has ps t h o c (x ∷ xs) (inl q) b e = rw (← q, b, has_join, e)
taken_has ps t h o c (x ∷ xs) (inr m) b e = rw (has_join, taken_has ps t h o c xs m b e, or-true)

-- what is taken is claimed by a better one
pub has_taken : (ps : List Program) (t : ℕ) (h : Entry) (c : ℕ) (hs : List Entry) → has (taken ps t hs h) c ≡ true
    → (o : Entry) × In o hs × (beats ps o h ≡ true) × (has (claim t o) c ≡ true)
unfolding taken
has_taken ps t h c [] e = not_has 0 c refl e
has_taken ps t h c (x ∷ xs) e = go (beats ps x h) refl (has (claim t x) c) refl (has_taken ps t h c xs) (rw has_join at e)
  where
    go : (b : Bool) → beats ps x h ≡ b → (d : Bool) → has (claim t x) c ≡ d → (has (taken ps t xs h) c ≡ true → (o : Entry) × In o xs × (beats ps o h ≡ true) × (has (claim t o) c ≡ true))
        → (has (cond b (claim t x) 0) c || has (taken ps t xs h) c) ≡ true → (o : Entry) × In o (x ∷ xs) × (beats ps o h ≡ true) × (has (claim t o) c ≡ true)
    go true p true q ih f = (x, inl refl, p, q)
    go true p false q ih f = let r = ih (rw q at f) in (r.0, inr r.1, r.2, r.3)
    go false p d q ih f = let r = ih (rw has_none at f) in (r.0, inr r.1, r.2, r.3)

module _ (ps : List Program) (t : ℕ) (hs : List Entry) (c : ℕ) where
  -- claims the control, and is better than h
  pub record Contender (h o : Entry) : Type 0 where
    pub here : In o hs
    pub ahead : beats ps o h ≡ true
    pub claims : has (claim t o) c ≡ true

  -- the best of the rivals, among o and a list
  pub record Topmost (h o : Entry) (xs : List Entry) : Type 0 where
    pub it : Entry
    pub rival : Contender h it
    pub beyond : All (λ x. has (claim t x) c ≡ true → beats ps x it ≡ true → ⊥) xs
    pub upward : (it ≡ o) ⊎ (beats ps it o ≡ true)

  -- nobody is better than one that is as good as itself
  not_over : (x b : Entry) → (b ≡ x) ⊎ (beats ps b x ≡ true) → beats ps x b ≡ true → ⊥
  not_over x b (inl e) d = both (beats ps x x) (subst (λ b. beats ps x b ≡ true) e d) (better_self (rank_of ps x.event))
  not_over x b (inr e) d = both (beats ps x x) (better_trans (rank_of ps x.event) (rank_of ps b.event) (rank_of ps x.event) d e) (better_self (rank_of ps x.event))

  up : (x b o : Entry) → (b ≡ x) ⊎ (beats ps b x ≡ true) → beats ps x o ≡ true → beats ps b o ≡ true
  up x b o (inl e) d = rw e d
  up x b o (inr e) d = better_trans (rank_of ps b.event) (rank_of ps x.event) (rank_of ps o.event) e d

  best : (h o : Entry) → Contender h o → (xs : List Entry) → All (λ x. In x hs) xs → Topmost h o xs
  best h o r [] i = record { it = o; rival = r; beyond = λ x m. absurd m; upward = inl refl }
  best h o r (x ∷ xs) i =
      go (beats ps x o) refl (has (claim t x) c) refl (λ q. best h x q xs (λ y m. i y (inr m))) (best h o r xs (λ y m. i y (inr m)))
    where
      stay : Topmost h o xs → ((b : Entry) → (b ≡ o) ⊎ (beats ps b o ≡ true) → has (claim t x) c ≡ true → beats ps x b ≡ true → ⊥) → Topmost h o (x ∷ xs)
      stay w f = record { it = w.it; rival = w.rival; beyond = λ y m. beyond y m; upward = w.upward }
        where
          beyond : (y : Entry) → In y (x ∷ xs) → has (claim t y) c ≡ true → beats ps y w.it ≡ true → ⊥
          beyond y (inl e) = subst (λ y. has (claim t y) c ≡ true → beats ps y w.it ≡ true → ⊥) (sym e) (f w.it w.upward)
          beyond y (inr m) = w.beyond y m

      move : beats ps x o ≡ true → Topmost h x xs → Topmost h o (x ∷ xs)
      move p w = record { it = w.it; rival = w.rival; beyond = λ y m. beyond y m; upward = inr (up x w.it o w.upward p) }
        where
          beyond : (y : Entry) → In y (x ∷ xs) → has (claim t y) c ≡ true → beats ps y w.it ≡ true → ⊥
          beyond y (inl e) = subst (λ y. has (claim t y) c ≡ true → beats ps y w.it ≡ true → ⊥) (sym e) (λ q d. not_over x w.it w.upward d)
          beyond y (inr m) = w.beyond y m

      go : (b : Bool) → beats ps x o ≡ b → (d : Bool) → has (claim t x) c ≡ d → (Contender h x → Topmost h x xs) → Topmost h o xs → Topmost h o (x ∷ xs)
      go true p true q f w = move p (f (record { here = i x (inl refl); ahead = better_trans (rank_of ps x.event) (rank_of ps o.event) (rank_of ps h.event) p r.ahead; claims = q }))
      go true p false q f w = stay w (λ b u e d. both (has (claim t x) c) e q)
      go false p d q f w = stay w (λ b u e g. both (beats ps x o) (rise b u g) p)
        where
          rise : (b : Entry) → (b ≡ o) ⊎ (beats ps b o ≡ true) → beats ps x b ≡ true → beats ps x o ≡ true
          rise b (inl e) g = subst (λ b. beats ps x b ≡ true) e g
          rise b (inr e) g = better_trans (rank_of ps x.event) (rank_of ps b.event) (rank_of ps o.event) g e

  pub held_if : (h : Entry) → has (claim t h) c ≡ true → has (taken ps t hs h) c ≡ false → has (held_at ps t hs h) c ≡ true
  unfolding held_at
  held_if h e d = rw (has_cut, e, d)

  pub if_held : (h : Entry) → has (held_at ps t hs h) c ≡ true → (has (claim t h) c ≡ true) × (not (has (taken ps t hs h) c) ≡ true)
  unfolding held_at
  if_held h e = each_true _ _ (sym (has_cut (claim t h) (taken ps t hs h) c) ∙ e)

  -- a control that a better event claims, a better event holds
  pub blocked : (h : Entry) → has (taken ps t hs h) c ≡ true → (o : Entry) × In o hs × (beats ps o h ≡ true) × (has (held_at ps t hs o) c ≡ true)
  blocked h e =
      let r = has_taken ps t h c hs e in
      let w = best h r.0 (record { here = r.1; ahead = r.2; claims = r.3 }) hs (λ x m. m) in
      (w.it, w.rival.here, w.rival.ahead, held_if w.it w.rival.claims (free w.it w.beyond (has (taken ps t hs w.it) c) refl))
    where
      free : (b : Entry) → All (λ x. has (claim t x) c ≡ true → beats ps x b ≡ true → ⊥) hs → (d : Bool) → has (taken ps t hs b) c ≡ d → d ≡ false
      free b f true e = let r = has_taken ps t b c hs e in absurd (f r.0 r.1 r.3 r.2)
      free b f false e = refl

  -- an event holds a control that it claims, unless a better event holds it at that moment
  pub holds : (h : Entry) → In h hs
      → (has (held_at ps t hs h) c ≡ true) ↔ ((has (claim t h) c ≡ true) × ((o : Entry) → In o hs → beats ps o h ≡ true → has (held_at ps t hs o) c ≡ true → ⊥))
  holds h m = (
    λ e. ((if_held h e).0, λ o n b d. both true refl (sym (if_held h e).1 ∙ ap not (taken_has ps t h o c hs n b (if_held o d).0))),
    λ e. held_if h e.0 (free e.1 (has (taken ps t hs h) c) refl),
  )
    where
      free : ((o : Entry) → In o hs → beats ps o h ≡ true → has (held_at ps t hs o) c ≡ true → ⊥) → (d : Bool) → has (taken ps t hs h) c ≡ d → d ≡ false
      free f true e = let r = blocked h e in absurd (f r.0 r.1 r.2 r.3)
      free f false e = refl

-- it never gets a control back: after its start an event holds only what it held a second before
pub never_back : (ps : List Program) (t : ℕ) (hs : List Entry) (h : Entry) (c : ℕ) → h.begins < t → has (held_at ps t hs h) c ≡ true → has h.held c ≡ true
unfolding claim
never_back ps t hs h c l e = go (h.cancelled || leb (end_of h) t || ltb t h.begins) (eqb h.begins t) refl (if_held ps t hs c h e).0
  where
    go : (b d : Bool) → eqb h.begins t ≡ d → has (cond b 0 (cond d h.event.controls h.held)) c ≡ true → has h.held c ≡ true
    go true d p e = not_has 0 c refl e
    go false true p e = absurd (omega (arith, eqb-true h.begins t p))
    go false false p e = e
