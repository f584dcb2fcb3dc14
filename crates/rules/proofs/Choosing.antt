-- Document 02, #102: which code an end gives, that choices change no held mask and nothing of another event, and the choices that change nothing.
use mathlib.Core.Path.{◌≡◌, refl, sym, ap, ap₂, ◌∙◌, subst}
use mathlib.Core.Logic.{◌↔◌, ⊎_elim}
use Prim.Native.Nat.{ℕ, zero, suc, ◌≤◌}
use native.Mathlib.Nat.{eq-or-lt_of_le}
use native.Mathlib.Omega.{arith}
use mathlib.Core.Bool.{Bool, true, false, cond, not, ◌&&◌, ◌||◌}
use mathlib.Core.List.{List, [], ◌∷◌, map, map-map}
use mathlib.Core.Option.{some}
use lib.Dec.{eqb}
use borrow.Author.Tests.{eqb-true, eqb-false, ne_eqb, not-false}
use Rattle.rules.specs.declared.Entry.{Entry}
use Rattle.rules.specs.declared.Program.{Program}
use Rattle.rules.specs.declared.Schedule.{Schedule}
use Rattle.rules.specs.Lists.{In}
use Rattle.rules.specs.Records.{cut, join, no_choice, differ, view, pad}
use Rattle.rules.specs.Holding.{rank_of, better, claim, taken, held_at, Holding, no_holding, carry, holding_at}
use Rattle.rules.specs.Rows.{end_code, code_at, ending}
use Rattle.rules.specs.Refusals.{find, held_checks}
use Rattle.rules.specs.Calls.{choose, code, entry_id, with_entries, decide, choice_code, does, checks, call}
use Rattle.rules.specs.Sound.{sound}
use Rattle.rules.specs.History.{Chosen}
use Rattle.rules.specs.Schedules.{Timed, gone_by, out_by, as_entry, holding, seen}
use Rattle.rules.specs.Clauses.{HoldsAny, code_given, EndsHolding, Throughout, InPart, rechosen, ChoiceClauses, ChoosingClauses}
use Rattle.rules.proofs.Tests.{both, either_false}
use Rattle.rules.proofs.ListLaws.{map_cong, map_same}
use Rattle.rules.proofs.Masks.{not_has, some_bit}
use Rattle.rules.proofs.RowLaws.{code_at_end, end_law}
use Rattle.rules.proofs.SoundState.{Sound, sound_view, pad_view}
use Rattle.rules.proofs.SoundKept.{sound_choose, call_pad}
use Rattle.rules.proofs.CallLaws.{found, done}

-- Marks: which seconds set them.

module _ (ps : List Program) (ts : List Timed) where
  -- a mark of what is carried, that a second sets which holds something with a choice that d picks
  module _ (mark : Holding → Bool) (d : Bool → Bool) (first : mark no_holding ≡ false)
      (next : (t : ℕ) (x : Timed) (k : Holding) (m : ℕ) → mark (carry (as_entry t x k) m) ≡ (mark k || (not (eqb m 0) && d (out_by t x.choices)))) where
    abbrev Never : ℕ → Timed → Type 0
    Never t x = (u : ℕ) → suc u ≤ t → HoldsAny ps ts (suc u) x → d (out_by u x.choices) ≡ false

    unset : (t : ℕ) (x : Timed) → mark (holding ps ts t x) ≡ false → Never t x
    unfolding holding holding_at
    unset zero x e u l h = absurd (omega arith)
    unset (suc t) x e u l h =
        let m = (holding ps ts (suc t) x).held in
        let r = either_false (mark (holding ps ts t x)) (not (eqb m 0) && d (out_by t x.choices)) (sym (next t x (holding ps ts t x) m) ∙ e) in
        ⊎_elim
        (λ q. let z : u ≡ t = omega arith in subst (λ u. d (out_by u x.choices) ≡ false) (sym z) (let k : HoldsAny ps ts (suc t) x = subst (λ u. HoldsAny ps ts (suc u) x) z h in rw (ne_eqb m 0 (λ q. not_has m k.0 q k.1)) at r.1))
        (λ k. unset t x r.0 u (omega arith) h) (eq-or-lt_of_le l)

    never : (t : ℕ) (x : Timed) → Never t x → mark (holding ps ts t x) ≡ false
    unfolding holding holding_at
    never zero x n = first
    never (suc t) x n =
        let m = (holding ps ts (suc t) x).held in
        next t x (holding ps ts t x) m ∙ rw (never t x (λ u l. n u (omega arith))) (go m (eqb m 0) refl (λ f. n t (omega arith) (some_bit m f)))
      where
        go : (m : ℕ) (b : Bool) → eqb m 0 ≡ b → ((m ≡ 0 → ⊥) → d (out_by t x.choices) ≡ false) → (not b && d (out_by t x.choices)) ≡ false
        go m true e f = refl
        go m false e f = f (eqb-false m 0 e)

  in_all : (t : ℕ) (x : Timed) → ((holding ps ts t x).was_out ≡ false) ↔ Throughout ps ts t false x
  in_all t x = (unset (λ k. k.was_out) (λ o. o) refl (λ t x k m. refl) t x, never (λ k. k.was_out) (λ o. o) refl (λ t x k m. refl) t x)

  out_all : (t : ℕ) (x : Timed) → ((holding ps ts t x).was_in ≡ false) ↔ Throughout ps ts t true x
  out_all t x = (
    λ e u l h. not-false (out_by u x.choices) (unset (λ k. k.was_in) not refl (λ t x k m. refl) t x e u l h),
    λ n. never (λ k. k.was_in) not refl (λ t x k m. refl) t x (λ u l h. ap not (n u l h)),
  )

  -- a moment at which something is held is one of the two
  not_both : (t : ℕ) (x : Timed) → HoldsAny ps ts t x → Throughout ps ts t false x → Throughout ps ts t true x → ⊥
  unfolding holding
  not_both zero x h a b = not_has 0 h.0 refl h.1
  not_both (suc t) x h a b = both (out_by t x.choices) (b t (omega arith) h) (a t (omega arith) h)

  -- Codes of an end.

  -- what the codes say of the three marks
  three : (o n u : Bool) → (end_code (record { out = o; was_in = n; was_out = u }) ≡ 3) ↔ (u ≡ false)
  unfolding end_code
  three o n false = (λ c. refl, λ c. refl)
  three o false true = (λ c. absurd (eqb-false 10 3 refl c), λ c. both true refl c)
  three true true true = (λ c. absurd (eqb-false 8 3 refl c), λ c. both true refl c)
  three false true true = (λ c. absurd (eqb-false 9 3 refl c), λ c. both true refl c)

  ten : (o n u : Bool) → (n ≡ false → u ≡ false → ⊥) → (end_code (record { out = o; was_in = n; was_out = u }) ≡ 10) ↔ (n ≡ false)
  unfolding end_code
  ten o true false f = (λ c. absurd (eqb-false 3 10 refl c), λ c. both true refl c)
  ten o false false f = absurd (f refl refl)
  ten o false true f = (λ c. refl, λ c. refl)
  ten true true true f = (λ c. absurd (eqb-false 8 10 refl c), λ c. both true refl c)
  ten false true true f = (λ c. absurd (eqb-false 9 10 refl c), λ c. both true refl c)

  eight : (o n u : Bool) → (end_code (record { out = o; was_in = n; was_out = u }) ≡ 8) ↔ ((u ≡ false → ⊥) × (n ≡ false → ⊥) × (o ≡ true))
  unfolding end_code
  eight o n false = (λ c. absurd (eqb-false 3 8 refl c), λ c. absurd (c.0 refl))
  eight o false true = (λ c. absurd (eqb-false 10 8 refl c), λ c. absurd (c.1 refl))
  eight true true true = (λ c. (λ p. both true refl p, λ p. both true refl p, refl), λ c. refl)
  eight false true true = (λ c. absurd (eqb-false 9 8 refl c), λ c. both false c.2 refl)

  nine : (o n u : Bool) → (end_code (record { out = o; was_in = n; was_out = u }) ≡ 9) ↔ ((u ≡ false → ⊥) × (n ≡ false → ⊥) × (o ≡ false))
  unfolding end_code
  nine o n false = (λ c. absurd (eqb-false 3 9 refl c), λ c. absurd (c.0 refl))
  nine o false true = (λ c. absurd (eqb-false 10 9 refl c), λ c. absurd (c.1 refl))
  nine true true true = (λ c. absurd (eqb-false 8 9 refl c), λ c. both true refl c.2)
  nine false true true = (λ c. (λ p. both true refl p, λ p. both true refl p, refl), λ c. refl)

  module _ (t : ℕ) (x : Timed) where
    abbrev o : Bool
    o = out_by t x.choices

    abbrev n : Bool
    n = (holding ps ts t x).was_in

    abbrev u : Bool
    u = (holding ps ts t x).was_out

    -- a code of an end is what its choice says
    by_choice : (k : ℕ) (Q : Type 0) → ending k ≡ true → (EndsHolding ps ts t x → (end_code (record { out = o; was_in = n; was_out = u }) ≡ k) ↔ Q)
        → code_given ps ts t x ≡ k ↔ (EndsHolding ps ts t x × Q)
    by_choice k Q p r = (
      λ c. let e = (end_law ps ts t x).0 (ap ending c ∙ p) in (e, (r e).0 (sym (code_at_end ps ts t x e) ∙ c)),
      λ q. code_at_end ps ts t x q.0 ∙ (r q.0).1 q.1,
    )

    -- one of the marks is set
    marked : EndsHolding ps ts t x → n ≡ false → u ≡ false → ⊥
    marked e p q = not_both t x e.2 ((in_all t x).0 q) ((out_all t x).0 p)

    always_in : code_given ps ts t x ≡ 3 ↔ (EndsHolding ps ts t x × Throughout ps ts t false x)
    always_in = by_choice 3 (Throughout ps ts t false x) refl (λ e. let r = three o n u in (λ c. (in_all t x).0 (r.0 c), λ c. r.1 ((in_all t x).1 c)))

    always_out : code_given ps ts t x ≡ 10 ↔ (EndsHolding ps ts t x × Throughout ps ts t true x)
    always_out = by_choice 10 (Throughout ps ts t true x) refl (λ e. let r = ten o n u (marked e) in (λ c. (out_all t x).0 (r.0 c), λ c. r.1 ((out_all t x).1 c)))

    out_at_end : code_given ps ts t x ≡ 8 ↔ (EndsHolding ps ts t x × InPart ps ts t true x)
    out_at_end = by_choice 8 (InPart ps ts t true x) refl (λ e. let r = eight o n u in (
      λ c. (λ a. (r.0 c).0 ((in_all t x).1 a), λ a. (r.0 c).1 ((out_all t x).1 a), (r.0 c).2),
      λ c. r.1 (λ p. c.0 ((in_all t x).0 p), λ p. c.1 ((out_all t x).0 p), c.2),
    ))

    in_at_end : code_given ps ts t x ≡ 9 ↔ (EndsHolding ps ts t x × InPart ps ts t false x)
    in_at_end = by_choice 9 (InPart ps ts t false x) refl (λ e. let r = nine o n u in (
      λ c. (λ a. (r.0 c).0 ((in_all t x).1 a), λ a. (r.0 c).1 ((out_all t x).1 a), (r.0 c).2),
      λ c. r.1 (λ p. c.0 ((in_all t x).0 p), λ p. c.1 ((out_all t x).0 p), c.2),
    ))

-- Held masks are not of choices.

abbrev bare : Entry → Entry
bare h = record { event = h.event; begins = h.begins; held = h.held; cancelled = h.cancelled; choice = no_choice }

claim_bare : (t : ℕ) (h : Entry) → claim t (bare h) ≡ claim t h
unfolding claim
claim_bare t h = refl

taken_bare : (ps : List Program) (t : ℕ) (hs : List Entry) (h : Entry) → taken ps t (map bare hs) (bare h) ≡ taken ps t hs h
unfolding taken
taken_bare ps t [] h = refl
taken_bare ps t (o ∷ os) h = ap₂ (λ m r. join (cond (better (rank_of ps o.event) (rank_of ps h.event)) m 0) r) (claim_bare t o) (taken_bare ps t os h)

held_bare : (ps : List Program) (t : ℕ) (hs : List Entry) (h : Entry) → held_at ps t (map bare hs) (bare h) ≡ held_at ps t hs h
unfolding held_at
held_bare ps t hs h = ap₂ cut (claim_bare t h) (taken_bare ps t hs h)

module _ (ps : List Program) (ts : List Timed) (f : Timed → List Chosen) where
  abbrev us : List Timed
  us = map (rechosen f) ts

  same_next : (t : ℕ) → ((x : Timed) → (holding ps us t (rechosen f x)).held ≡ (holding ps ts t x).held) → (x : Timed)
      → held_at ps (suc t) (map (seen ps us t) us) (seen ps us t (rechosen f x)) ≡ held_at ps (suc t) (map (seen ps ts t) ts) (seen ps ts t x)
  same_next t ih x =
      sym (held_bare ps (suc t) (map (seen ps us t) us) (seen ps us t (rechosen f x)))
      ∙ ap₂ (held_at ps (suc t)) all (one x)
      ∙ held_bare ps (suc t) (map (seen ps ts t) ts) (seen ps ts t x)
    where
      one : (x : Timed) → bare (seen ps us t (rechosen f x)) ≡ bare (seen ps ts t x)
      one x = ap (λ m. record { event = x.event; begins = x.begins; held = cond (gone_by t x.cancelled) 0 m; cancelled = gone_by t x.cancelled; choice = no_choice }) (ih x)

      all : map bare (map (seen ps us t) us) ≡ map bare (map (seen ps ts t) ts)
      all =
          map-map bare (seen ps us t) us
          ∙ map-map (λ x. bare (seen ps us t x)) (rechosen f) ts
          ∙ map_cong (λ x. bare (seen ps us t (rechosen f x))) (λ x. bare (seen ps ts t x)) ts (λ x m. one x)
          ∙ sym (map-map bare (seen ps ts t) ts)

  same_masks : (t : ℕ) (x : Timed) → (holding ps us t (rechosen f x)).held ≡ (holding ps ts t x).held
  unfolding holding holding_at
  same_masks zero x = refl
  same_masks (suc t) x = same_next t (same_masks t) x

  module _ (x : Timed) (q : f x ≡ x.choices) where
    seen_same : (t : ℕ) (k : Holding) → as_entry t (rechosen f x) k ≡ as_entry t x k
    seen_same t k = rw q

    same_holding : (t : ℕ) → holding ps us t (rechosen f x) ≡ holding ps ts t x
    unfolding holding holding_at
    same_holding zero = refl
    same_holding (suc t) =
        ap₂ carry (ap (as_entry t (rechosen f x)) (same_holding t) ∙ seen_same t (holding ps ts t x)) (same_next t (same_masks t) x)

    same_codes : (t : ℕ) → code_given ps us t (rechosen f x) ≡ code_given ps ts t x
    same_codes t = ap₂ (code_at (suc t)) (ap (as_entry t (rechosen f x)) (same_holding t) ∙ seen_same t (holding ps ts t x)) (same_holding (suc t))

pub choice_clauses : (ps : List Program) (ts : List Timed) → ChoiceClauses ps ts
choice_clauses ps ts = record {
  always_in = always_in ps ts;
  always_out = always_out ps ts;
  out_at_end = out_at_end ps ts;
  in_at_end = in_at_end ps ts;
  same_masks = same_masks ps ts;
  same_codes = λ f t x q. same_codes ps ts f x q t;
}

-- Choices that change nothing.

differ_same : (b : Bool) → differ b b ≡ false
differ_same true = refl
differ_same false = refl

found_decide : (i : ℕ) (out : Bool) (h : Entry) (hs : List Entry) → find i hs ≡ some h → find i (map (decide i out) hs) ≡ some (decide i out h)
unfolding find
found_decide i out h [] f = absurd (let z : ◌≡◌ {A = ℕ} 0 1 = cc in omega arith)
found_decide i out h (x ∷ xs) f = go (eqb (entry_id x) i) f (found_decide i out h xs)
  where
    go : (b : Bool) → cond b (some x) (find i xs) ≡ some h → (find i xs ≡ some h → find i (map (decide i out) xs) ≡ some (decide i out h))
        → cond b (some (decide i out x)) (find i (map (decide i out) xs)) ≡ some (decide i out h)
    go true q ih = let z : x ≡ h = cc in ap (λ x. some (decide i out x)) z
    go false q ih = ih q

module _ (s : Schedule) (e : sound s ≡ true) (h : Entry) (m : In h (view s).entries) where
  abbrev i : ℕ
  i = entry_id h

  abbrev hs : List Entry
  hs = (view s).entries

  held : find i hs ≡ some h
  held = found hs (sound_view s e).ids h m

  -- an entry under the id is the one
  only : (o : Entry) → In o hs → entry_id o ≡ i → o ≡ h
  only o k q = let p : find i hs ≡ some o = subst (λ j. find j hs ≡ some o) q (found hs (sound_view s e).ids o k) in cc held

  -- what stands is chosen again, after any choice
  stays : (out : Bool) (o : Entry) → In o hs → decide i h.choice.out (decide i out o) ≡ o
  stays out o k = go (eqb (entry_id o) i) refl
    where
      go : (b : Bool) → eqb (entry_id o) i ≡ b
          → record {
            event = o.event;
            begins = o.begins;
            held = o.held;
            cancelled = o.cancelled;
            choice = record { out = cond b h.choice.out (cond b out o.choice.out); was_in = o.choice.was_in; was_out = o.choice.was_out };
          } ≡ o
      go true p = ap (λ c. record {
        event = o.event;
        begins = o.begins;
        held = o.held;
        cancelled = o.cancelled;
        choice = record { out = c; was_in = o.choice.was_in; was_out = o.choice.was_out };
      }) (ap (λ o. o.choice.out) (sym (only o k (eqb-true (entry_id o) i p))))
      go false p = refl

  stays_all : (out : Bool) → map (decide i h.choice.out) (map (decide i out) hs) ≡ hs
  stays_all out = map-map (decide i h.choice.out) (decide i out) hs ∙ map_same (λ o. decide i h.choice.out (decide i out o)) hs (stays out)

  repeated : call s (choose i h.choice.out) ≡ record { number = 0; value = code 0; state = s; bytes = []; records = [] }
  unfolding checks held_checks does
  repeated =
      done s e (choose i h.choice.out) (rw held)
      ∙ rw (held, differ_same) (ap (λ z. record { number = 0; value = code 0; state = z; bytes = []; records = [] })
      (ap (λ l. pad (with_entries (view s) l)) (map_same (decide i h.choice.out) hs (λ o k. twice o ∙ stays h.choice.out o k)) ∙ pad_view s e))
    where
      twice : (o : Entry) → decide i h.choice.out o ≡ decide i h.choice.out (decide i h.choice.out o)
      twice o = ap (λ c. record {
        event = o.event;
        begins = o.begins;
        held = o.held;
        cancelled = o.cancelled;
        choice = record { out = c; was_in = o.choice.was_in; was_out = o.choice.was_out };
      }) (go (eqb (entry_id o) i) h.choice.out o.choice.out)
        where
          go : (b x y : Bool) → cond b x y ≡ cond b x (cond b x y)
          go true x y = refl
          go false x y = refl

  back : (call (call s (choose i (not h.choice.out))).state (choose i h.choice.out)).state ≡ s
  unfolding checks held_checks does
  back =
      let no = not h.choice.out in
      let s1 = with_entries (view s) (map (decide i no) hs) in
      let first : (call s (choose i no)).state ≡ pad s1 = ap (λ o. o.state) (done s e (choose i no) (rw held)) in
      let v1 : Sound s1 = sound_choose (view s) (sound_view s e) i no in
      ap (λ z. (call z (choose i h.choice.out)).state) first
      ∙ ap (λ o. o.state) (call_pad s1 v1 (choose i h.choice.out))
      ∙ rw (found_decide i no h hs held) (ap (λ l. pad (with_entries (view s) l)) (stays_all no) ∙ pad_view s e)

  gives_code : (out : Bool) → ((call s (choose i out)).number ≡ 0) × ((call s (choose i out)).value ≡ cond (differ h.choice.out out) (cond out (code 4) (code 5)) (code 0))
  unfolding checks held_checks does
  gives_code out = let d = done s e (choose i out) (rw held) in (ap (λ o. o.number) d, ap (λ o. o.value) d ∙ ap (choice_code out) held)

pub choosing_clauses : ChoosingClauses
choosing_clauses = record {
  gives_code = λ s h out e m. gives_code s e h m out;
  repeated = λ s h e m. repeated s e h m;
  back = λ s h e m. back s e h m;
}
