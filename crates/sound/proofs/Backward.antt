-- A pass from the back tests what the definition tests of each pair: an id below the next one is below all after it, since < carries over, and a mask
-- that shares nothing with the union of those after it shares nothing with any of them.
use mathlib.Core.Path.{◌≡◌, refl, sym, ap, ◌∙◌}
use Prim.Native.Nat.{ℕ}
use mathlib.Core.Bool.{Bool, true, false, ◌&&◌, ◌||◌, and-false, or-true}
use mathlib.Core.List.{List, [], ◌∷◌, ◌++◌}
use lib.ListN.{length}
use Rattle.std.proofs.lemmas.List.{nil_from_length}
use native.Mathlib.Omega.{arith}
use borrow.Author.Tests.{ltb-true, lt-ltb, eq-eqb, ne_eqb, eqb-true, eqb-false}
use lib.Dec.{eqb}
use Rattle.std.specs.Prelude.{Option, Some, None}
use Rattle.rules.specs.declared.Id.{Id}
use Rattle.rules.specs.declared.Program.{Program}
use Rattle.rules.specs.declared.Entry.{Entry}
use Rattle.rules.specs.Lists.{each, pairs}
use Rattle.rules.specs.Records.{id_of, has, cut, join}
use Rattle.rules.specs.Sound.{ascending, apart, sound_entry}
use Rattle.rules.proofs.ListLaws.{each_all, all_each}
use Rattle.rules.proofs.Masks.{has_join, not_has, cut_apart, apart_cut}
use Rattle.sound.specs.HeldRules.{precedes, clear, held_rules}

-- what the pass keeps of the entries that it has passed: the first one's id if there are any, and all that they hold
abbrev first_id : List Entry → Option Id
first_id [] = None
first_id (h ∷ hs) = Some h.event.id

abbrev held_by : List Entry → ℕ
held_by [] = 0
held_by (h ∷ hs) = join h.held (held_by hs)

-- Ids.

carries : (h o x : Entry) → ascending h o ≡ true → ascending o x ≡ true → ascending h x ≡ true
unfolding ascending
carries h o x e d =
    let a = id_of h.event in
    let b = id_of o.event in
    let c = id_of x.event in
    lt-ltb a c (omega (arith, ltb-true a b e, ltb-true b c d))

below : (h o : Entry) (hs : List Entry) → ascending h o ≡ true → each (ascending o) hs ≡ true → each (ascending h) hs ≡ true
below h o hs e d = all_each (ascending h) hs (λ x m. carries h o x e (each_all (ascending o) hs d x m))

implied : (x y z w : Bool) → (x ≡ true → y ≡ true → z ≡ true) → x && (y && w) ≡ x && z && (y && w)
implied false y z w f = refl
implied true false z w f = sym (and-false z)
implied true true z w f = rw (f refl refl)

ids_ascend : (h : Entry) (hs : List Entry) → precedes (first_id hs) h && pairs ascending hs ≡ each (ascending h) hs && pairs ascending hs
unfolding ascending
ids_ascend h [] = refl
ids_ascend h (o ∷ os) = implied (ascending h o) (each (ascending o) os) (each (ascending h) os) (pairs ascending os) (below h o os)

-- Masks.

module _ (m a b : ℕ) where
  bits_join : (k : ℕ) → (has a k ≡ true → ⊥) → (has b k ≡ true → ⊥) → has (join a b) k ≡ true → ⊥
  bits_join k f g e = go (has a k) refl (sym (has_join a b k) ∙ e)
    where
      go : (x : Bool) → has a k ≡ x → (x || has b k) ≡ true → ⊥
      go true p q = f p
      go false p q = g q

  clear_join : eqb (cut m (join a b)) m ≡ eqb (cut m a) m && eqb (cut m b) m
  clear_join = go (eqb (cut m a) m) (eqb (cut m b) m) refl refl
    where
      go : (x y : Bool) → eqb (cut m a) m ≡ x → eqb (cut m b) m ≡ y → eqb (cut m (join a b)) m ≡ x && y
      go true true p q = eq-eqb _ m (cut_apart m (join a b) (λ k e. bits_join k (apart_cut m a (eqb-true _ m p) k e) (apart_cut m b (eqb-true _ m q) k e)))
      go true false p q = ne_eqb _ m (λ z. eqb-false _ m q (cut_apart m b (λ k e d. apart_cut m (join a b) z k e (has_join a b k ∙ rw (d, or-true)))))
      go false y p q = ne_eqb _ m (λ z. eqb-false _ m p (cut_apart m a (λ k e d. apart_cut m (join a b) z k e (has_join a b k ∙ rw d))))

masks_apart : (h : Entry) (hs : List Entry) → clear (held_by hs) h ≡ each (apart h) hs
unfolding apart
masks_apart h [] = eq-eqb _ h.held (cut_apart h.held 0 (λ k e d. not_has 0 k refl d))
masks_apart h (o ∷ os) = clear_join h.held o.held (held_by os) ∙ ap (◌&&◌ (apart h o)) (masks_apart h os)

-- The pass.

regroup : (o p c x y z : Bool) → o && (p && c && (x && (y && z))) ≡ p && x && (o && y && (c && z))
regroup false p c x y z = sym (and-false (p && x))
regroup true false c x y z = refl
regroup true true false x y z = simp and-false
regroup true true true x y z = refl

module _ (ps : List Program) (clock : ℕ) where
  -- what the loop's variables say of the entries passed
  pub record EntriesPassed (hs : List Entry) (ok : Bool) (used : ℕ) (next : Option Id) : Type 0 where
    pub kept : ok ≡ held_rules ps clock hs
    pub union : used ≡ held_by hs
    pub first : next ≡ first_id hs

  pub start : EntriesPassed [] true 0 None
  start = record { kept = refl; union = refl; first = refl }

  -- the entry before them: its own rules, and those with the entries passed
  pub turn : (h : Entry) (hs : List Entry) {own before ok : Bool} {used : ℕ} {next : Option Id}
      → own ≡ sound_entry ps clock h → before ≡ precedes next h && clear used h
      → EntriesPassed hs ok used next → EntriesPassed (h ∷ hs) (own && (before && ok)) (join h.held used) (Some h.event.id)
  turn h hs o b p =
      record {
        kept = rw (o, b, p.kept, p.union, p.first, regroup, ids_ascend h hs, masks_apart h hs);
        union = ap (join h.held) p.union;
        first = refl;
      }

-- with nothing left, all have been passed
pub all_passed : {held : List Entry} (left passed : List Entry) → held ≡ left ++ passed → length left ≡ 0 → passed ≡ held
all_passed left passed e z = sym (e ∙ ap (λ xs. xs ++ passed) (nil_from_length left z))
