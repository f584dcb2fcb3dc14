-- Frames kind by kind: the size of a kind, and the frame that bytes of that size are.
use mathlib.Core.Path.{◌≡◌, refl, sym, ◌∙◌}
use Prim.Native.Nat.{ℕ, zero, suc, ◌*◌, ◌<◌, ◌≤◌}
use mathlib.Core.Bool.{Bool, true, false, cond, and-true, and-false}
use mathlib.Core.List.{List}
use native.Mathlib.Omega.{arith}
use borrow.Author.Tests.{eq-eqb, ne_eqb, eqb-false}
use lib.Dec.{eqb}
use lib.ListN.{length, get_or, take}
use lib.Seq.{take_all}
use Rattle.rules.specs.declared.Line.TheVariants.{Bad}
use Rattle.rules.specs.Records.{id_size}
use Rattle.rules.specs.Frames.{event_frame_in, event_frame, id_frame, clock_frame, program_frame, ask_frame, paired, unhex, is_frame, frame_in, line_in}
use Rattle.rules.proofs.Tests.{cond_same}
use Rattle.frame.specs.declared.Width.{Width}
use Rattle.frame.specs.declared.Width.TheVariants.{Short, Long}
use Rattle.frame.specs.declared.Shape.TheVariants.{WithoutId, WithId}
use Rattle.frame.specs.Decoded.{width_of, shape_of, size_of, size_in, frame_as, frame_as_in}
use Rattle.frame.proofs.Fronts.{read_take}
use Rattle.frame.proofs.Pairs.{length_unhex}

-- a number that is no kind
pub record NoKind (k : ℕ) : Type 0 where
  pub not_1 : eqb k 1 ≡ false
  pub not_2 : eqb k 2 ≡ false
  pub not_3 : eqb k 3 ≡ false
  pub not_4 : eqb k 4 ≡ false
  pub not_5 : eqb k 5 ≡ false
  pub not_6 : eqb k 6 ≡ false
  pub not_7 : eqb k 7 ≡ false
  pub size : (w : ℕ) → size_in w k ≡ 0

-- one that differs from each, as a `match` leaves it
abbrev Other : ℕ → Type 0
Other k = ((((((Unit {0} × (k ≡ 1 → ⊥)) × (k ≡ 2 → ⊥)) × (k ≡ 3 → ⊥)) × (k ≡ 4 → ⊥)) × (k ≡ 5 → ⊥)) × (k ≡ 6 → ⊥)) × (k ≡ 7 → ⊥)

pub no_kind : {k : ℕ} → Other k → NoKind k
unfolding size_in
no_kind {k} r =
    let one = ne_eqb k 1 r.0.0.0.0.0.0.1 in
    let two = ne_eqb k 2 r.0.0.0.0.0.1 in
    let three = ne_eqb k 3 r.0.0.0.0.1 in
    let four = ne_eqb k 4 r.0.0.0.1 in
    let five = ne_eqb k 5 r.0.0.1 in
    let six = ne_eqb k 6 r.0.1 in
    let seven = ne_eqb k 7 r.1 in
    record {
      not_1 = one;
      not_2 = two;
      not_3 = three;
      not_4 = four;
      not_5 = five;
      not_6 = six;
      not_7 = seven;
      size = λ w. simp (one, two, three, four, five, six, seven);
    }

pub above : (k : ℕ) → 7 < k → NoKind k
above k h = no_kind (((((((tt, λ e. omega arith), λ e. omega arith), λ e. omega arith), λ e. omega arith), λ e. omega arith), λ e. omega arith), λ e. omega arith)

-- what holds of each kind, and of what is no kind, holds of each number
pub by_kind : (P : ℕ → Type 0) → P 1 → P 2 → P 3 → P 4 → P 5 → P 6 → P 7 → ((k : ℕ) → NoKind k → P k) → (k : ℕ) → P k
unfolding size_in
by_kind P a b c d e f g none zero =
    none 0 (record { not_1 = refl; not_2 = refl; not_3 = refl; not_4 = refl; not_5 = refl; not_6 = refl; not_7 = refl; size = λ w. refl })
by_kind P a b c d e f g none (suc zero) = a
by_kind P a b c d e f g none (suc (suc zero)) = b
by_kind P a b c d e f g none (suc (suc (suc zero))) = c
by_kind P a b c d e f g none (suc (suc (suc (suc zero)))) = d
by_kind P a b c d e f g none (suc (suc (suc (suc (suc zero))))) = e
by_kind P a b c d e f g none (suc (suc (suc (suc (suc (suc zero)))))) = f
by_kind P a b c d e f g none (suc (suc (suc (suc (suc (suc (suc zero))))))) = g
by_kind P a b c d e f g none (suc (suc (suc (suc (suc (suc (suc (suc k)))))))) = none _ (above _ (omega arith))

pub size_bound : (w k : ℕ) → size_in w k ≤ event_frame_in w
unfolding size_in
size_bound w =
    by_kind (λ k. size_in w k ≤ event_frame_in w) (omega arith) (omega arith) (omega arith) (omega arith) (omega arith) (omega arith) (omega arith)
    (λ k n. omega (arith, n.size w))

-- and so of each width
pub width_bound : (w : Width) → width_of w ≤ id_size
width_bound Short = omega arith
width_bound Long = omega arith

pub width_size : (w : Width) (k : ℕ) → size_in (width_of w) k ≤ event_frame
width_size w k = omega (arith, width_bound w, size_bound (width_of w) k)

pub frame_none : (w k : ℕ) → NoKind k → (b : List ℕ) → frame_as_in w k b ≡ Bad
unfolding frame_as_in
frame_none w k n b = rw (n.not_1, n.not_2, n.not_3, n.not_4, n.not_5, n.not_6, n.not_7)

unsized : (w k : ℕ) → size_in w k ≡ 0 → (b : List ℕ) → frame_as_in w k b ≡ Bad
unfolding size_in
unsized w =
    by_kind (λ k. size_in w k ≡ 0 → (b : List ℕ) → frame_as_in w k b ≡ Bad)
    (λ e b. absurd (omega arith))
    (λ e b. absurd (omega arith))
    (λ e b. absurd (omega arith))
    (λ e b. absurd (omega arith))
    (λ e b. absurd (omega arith))
    (λ e b. absurd (omega arith))
    (λ e b. absurd (omega arith))
    (λ k n e b. frame_none w k n b)

-- bytes are a frame of the kind that the first says if they are as many as it asks for
pub frame_by_kind : (w : ℕ) (b : List ℕ) → frame_in w b ≡ cond (eqb (length b) (size_in w (get_or b 0 0))) (frame_as_in w (get_or b 0 0) b) Bad
unfolding frame_in is_frame size_in frame_as_in
frame_by_kind w b = by_kind P
    (λ e. simp (e, and-true, and-false))
    (λ e. simp (e, and-true, and-false))
    (λ e. simp (e, and-true, and-false))
    (λ e. simp (e, and-true, and-false))
    (λ e. simp (e, and-true, and-false))
    (λ e. simp (e, and-true, and-false))
    (λ e. simp (e, and-true, and-false))
    (λ k n e. simp (e, n.not_1, n.not_2, n.not_3, n.not_4, n.not_5, n.not_6, n.not_7, and-false, cond_same))
    (get_or b 0 0)
    refl
  where
    P : ℕ → Type 0
    P k = get_or b 0 0 ≡ k → frame_in w b ≡ cond (eqb (length b) (size_in w k)) (frame_as_in w k b) Bad

-- a frame's fields stand within its size
pub frame_front : (k : ℕ) (b : List ℕ) → length b ≡ event_frame → frame_as k b ≡ frame_as k (take (size_of k) b)
unfolding frame_as_in size_in
frame_front k b h =
    let id = read_take id_size 1 id_frame b (omega arith) in
    by_kind (λ k. frame_as k b ≡ frame_as k (take (size_of k) b))
    (rw (take_all event_frame b (omega arith)))
    (rw id)
    (rw (read_take 8 1 clock_frame b (omega arith)))
    (rw (read_take 1 1 program_frame b (omega arith), read_take 1 2 program_frame b (omega arith), read_take 4 3 program_frame b (omega arith)))
    (rw (read_take 1 1 ask_frame b (omega arith)))
    (rw id)
    (rw id)
    (λ k n. frame_none id_size k n b ∙ sym (frame_none id_size k n (take (size_of k) b)))
    k

-- whether a frame has an id, by its kind: those from 3 to 5 have none
pub with_id : (w k : ℕ) (b : List ℕ) → (size_in w k ≡ 0 → ⊥) → (3 ≤ k → 5 < k) → shape_of (frame_as_in w k b) ≡ WithId
unfolding frame_as_in
with_id w k b =
    by_kind (λ k. (size_in w k ≡ 0 → ⊥) → (3 ≤ k → 5 < k) → shape_of (frame_as_in w k b) ≡ WithId)
    (λ s h. refl)
    (λ s h. refl)
    (λ s h. absurd (omega arith))
    (λ s h. absurd (omega arith))
    (λ s h. absurd (omega arith))
    (λ s h. refl)
    (λ s h. refl)
    (λ k n s h. absurd (s (n.size w)))
    k

pub without_id : (w k : ℕ) (b : List ℕ) → 3 ≤ k → k ≤ 5 → shape_of (frame_as_in w k b) ≡ WithoutId
unfolding frame_as_in
without_id w k b =
    by_kind (λ k. 3 ≤ k → k ≤ 5 → shape_of (frame_as_in w k b) ≡ WithoutId)
    (λ h i. absurd (omega arith))
    (λ h i. absurd (omega arith))
    (λ h i. refl)
    (λ h i. refl)
    (λ h i. refl)
    (λ h i. absurd (omega arith))
    (λ h i. absurd (omega arith))
    (λ k n h i. absurd (omega (arith, eqb-false k 3 n.not_3, eqb-false k 4 n.not_4, eqb-false k 5 n.not_5)))
    k

-- a line of pairs that is as long as its kind asks for, and one that is not
module _ (w : ℕ) (l : List ℕ) where
  pub line_as : paired l ≡ true → length l ≡ 2 * size_in w (get_or (unhex l) 0 0) → line_in w l ≡ frame_as_in w (get_or (unhex l) 0 0) (unhex l)
  unfolding line_in
  line_as p e =
      let n = eq-eqb (length (unhex l)) (size_in w (get_or (unhex l) 0 0)) (omega (arith, length_unhex l p)) in
      rw (p, frame_by_kind w (unhex l), n)

  pub other_length : (length l ≡ 2 * size_in w (get_or (unhex l) 0 0) → ⊥) → line_in w l ≡ Bad
  unfolding line_in
  other_length other = go (paired l) refl
    where
      go : (t : Bool) → paired l ≡ t → cond t (frame_in w (unhex l)) Bad ≡ Bad
      go true p =
          let n = ne_eqb (length (unhex l)) (size_in w (get_or (unhex l) 0 0)) (λ e. other (omega (arith, length_unhex l p))) in
          rw (frame_by_kind w (unhex l), n)
      go false p = refl

  -- and one whose first pair is no kind
  pub no_size : size_in w (get_or (unhex l) 0 0) ≡ 0 → line_in w l ≡ Bad
  unfolding line_in
  no_size e = rw (frame_by_kind w (unhex l), unsized w (get_or (unhex l) 0 0) e (unhex l), cond_same, cond_same)

  -- no kind asks for more pairs than an event
  pub long_line : 2 * event_frame_in w < length l → line_in w l ≡ Bad
  long_line h = other_length (λ e. omega (arith, size_bound w (get_or (unhex l) 0 0)))
