-- When 10 and 13 are given, and when not: no number before applies, and its own test holds.
use mathlib.Core.Path.{◌≡◌, refl, sym, ap, ◌∙◌, subst}
use mathlib.Core.Logic.{◌↔◌, inl, inr}
use Prim.Native.Nat.{ℕ, ◌*◌, ◌<◌, ◌≤◌}
use mathlib.Core.Bool.{Bool, true, false, cond, not, ◌||◌}
use mathlib.Core.List.{List, [], ◌∷◌}
use mathlib.Core.Option.{Option, none, some}
use lib.Dec.{ltb, leb, eqb}
use lib.ListN.{length}
use borrow.Author.Tests.{ltb-true, ltb-false, lt-ltb, le-ltb, leb-true, le-leb, eqb-true, eqb-false, not-false}
use Rattle.rules.specs.declared.Event.{Event}
use Rattle.rules.specs.declared.Entry.{Entry}
use Rattle.rules.specs.Lists.{All}
use Rattle.rules.specs.Records.{State, id_of, most_events, last_clock, program_at}
use Rattle.rules.specs.Bytes.{row_size}
use Rattle.rules.specs.Sound.{malformed, same_event}
use Rattle.rules.specs.Refusals.{first_of, find, late, event_checks, clock_checks, list_checks}
use Rattle.rules.specs.Clauses.{Fit}
use Rattle.rules.proofs.Tests.{both, either_false}
use Rattle.rules.proofs.Kept.{find_none}

-- the last number is given if its test holds
given : (k : ℕ) (b : Bool) → eqb 0 k ≡ false → cond b k 0 ≡ k → b ≡ true
given k true f e = refl
given k false f e = absurd (eqb-false 0 k f e)

-- and where its test holds
gives : (k : ℕ) (b : Bool) → b ≡ true → cond b k 0 ≡ k
gives k true e = refl
gives k false e = both false e refl

-- a test that is not of number k was false
passed_over : (n k : ℕ) (b : Bool) (r : ℕ) → eqb n k ≡ false → cond b n r ≡ k → (b ≡ false) × (r ≡ k)
passed_over n k true r f e = absurd (eqb-false n k f e)
passed_over n k false r f e = (refl, e)

-- and one that is false is passed over
over : (n : ℕ) (b : Bool) (r : ℕ) → b ≡ false → cond b n r ≡ r
over n true r e = both true refl e
over n false r e = refl

-- nothing is found under an id that nobody has
unheld : (i : ℕ) (hs : List Entry) → All (λ h. id_of h.event ≡ i → ⊥) hs → find i hs ≡ none
unfolding find
unheld i [] f = refl
unheld i (x ∷ xs) f = go (eqb (id_of x.event) i) refl (unheld i xs (λ h m. f h (inr m)))
  where
    go : (b : Bool) → eqb (id_of x.event) i ≡ b → find i xs ≡ none → cond b (some x) (find i xs) ≡ none
    go true e ih = absurd (f x (inl refl) (eqb-true (id_of x.event) i e))
    go false e ih = ih

-- 10.

module _ (s : State) (d : Event) where
  ten_only : (o : Option Entry) → find (id_of d) s.entries ≡ o → first_of (event_checks s d o) ≡ 10 → (most_events ≤ length s.entries) × Fit s d
  unfolding event_checks
  ten_only (some h) f z =
      let r3 = passed_over 3 10 (ltb 7 d.program) _ refl z in
      let r6 = passed_over 6 10 (not (program_at s.programs d.program).added) _ refl r3.1 in
      let r7 = passed_over 7 10 (malformed d) _ refl r6.1 in
      let r8 = passed_over 8 10 (not (same_event h.event d)) _ refl r7.1 in
      absurd (eqb-false 0 10 refl r8.1)
  ten_only none f z =
      let r3 = passed_over 3 10 (ltb 7 d.program) _ refl z in
      let r6 = passed_over 6 10 (not (program_at s.programs d.program).added) _ refl r3.1 in
      let r7 = passed_over 7 10 (malformed d) _ refl r6.1 in
      let r9 = passed_over 9 10 (late s.clock d) _ refl r7.1 in (
        leb-true most_events (length s.entries) (given 10 (leb most_events (length s.entries)) refl r9.1),
        record {
          program = ltb-false 7 d.program r3.0;
          added = not-false (program_at s.programs d.program).added r6.0;
          is_well_formed = r7.0;
          new = find_none (id_of d) s.entries f;
          in_time = r9.0;
        },
      )

  ten_if : most_events ≤ length s.entries → Fit s d → first_of (event_checks s d (find (id_of d) s.entries)) ≡ 10
  unfolding event_checks
  ten_if l f =
      subst (λ o. first_of (event_checks s d o) ≡ 10) (sym (unheld (id_of d) s.entries f.new))
      (over 3 (ltb 7 d.program) _ (le-ltb 7 d.program f.program)
      ∙ over 6 (not (program_at s.programs d.program).added) _ (ap not f.added)
      ∙ over 7 (malformed d) _ f.is_well_formed
      ∙ over 9 (late s.clock d) _ f.in_time
      ∙ gives 10 (leb most_events (length s.entries)) (le-leb most_events (length s.entries) l))

  pub ten : first_of (event_checks s d (find (id_of d) s.entries)) ≡ 10 ↔ ((most_events ≤ length s.entries) × Fit s d)
  ten = (λ z. ten_only (find (id_of d) s.entries) refl z, λ f. ten_if f.0 f.1)

-- 13.

pub short_buffer : (clock t rows room : ℕ) → first_of (clock_checks clock t rows room) ≡ 13 ↔ ((clock ≤ t) × (t ≤ last_clock) × (room < row_size * rows))
unfolding clock_checks
short_buffer clock t rows room = (only, λ f. if f.0 f.1 f.2)
  where
    only : first_of (clock_checks clock t rows room) ≡ 13 → (clock ≤ t) × (t ≤ last_clock) × (room < row_size * rows)
    only z =
        let r12 = passed_over 12 13 (ltb t clock || ltb last_clock t) _ refl z in
        let r = either_false (ltb t clock) (ltb last_clock t) r12.0 in
        (ltb-false t clock r.0, ltb-false last_clock t r.1, ltb-true room (row_size * rows) (given 13 (ltb room (row_size * rows)) refl r12.1))

    reading : clock ≤ t → t ≤ last_clock → (ltb t clock || ltb last_clock t) ≡ false
    reading l m = cc (le-ltb t clock l, le-ltb last_clock t m)

    if : clock ≤ t → t ≤ last_clock → room < row_size * rows → first_of (clock_checks clock t rows room) ≡ 13
    if l m n = over 12 (ltb t clock || ltb last_clock t) _ (reading l m) ∙ gives 13 (ltb room (row_size * rows)) (lt-ltb room (row_size * rows) n)

pub short_list : (held room : ℕ) → first_of (list_checks held room) ≡ 13 ↔ (room < held)
unfolding list_checks
short_list held room = (λ z. ltb-true room held (given 13 (ltb room held) refl z), λ l. gives 13 (ltb room held) (lt-ltb room held l))
