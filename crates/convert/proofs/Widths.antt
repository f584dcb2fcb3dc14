-- A line over ids of one width and of another: without an id it is the same frame, with one it is a frame over one width only, and widened it is the frame that it was.
use mathlib.Core.Path.{◌≡◌, refl, sym, ap, ◌∙◌}
use Prim.Native.Nat.{ℕ, ◌+◌, ◌*◌, ◌≤◌}
use mathlib.Core.Bool.{true, cond}
use mathlib.Core.List.{List, [], ◌∷◌, ◌++◌}
use mathlib.Core.Option.{none, some}
use native.Mathlib.Omega.{arith}
use borrow.Author.Tests.{eqb-true, eqb-false, eq-eqb, ne_eqb}
use borrow.Table.Steps.{cases}
use lib.Dec.{eqb}
use lib.ListN.{length, get_or, take, drop, replicate, take-append-drop}
use lib.Seq.{length-take-le}
use Rattle.rules.specs.declared.Frame.{Frame}
use Rattle.rules.specs.declared.Line.TheVariants.{Good, Bad}
use Rattle.rules.specs.Lists.{each}
use Rattle.rules.specs.Records.{half_size, id_size}
use Rattle.rules.specs.Bytes.{read, event_in}
use Rattle.rules.specs.Frames.{digit, paired, unhex, frame_in, line_in}
use Rattle.rules.specs.Converted.{frame_id, kind_digits, half_digits, widened, narrowed}
use Rattle.rules.proofs.ListLaws.{each_all, replicated}
use Rattle.frame.specs.declared.Shape.{Shape}
use Rattle.frame.specs.declared.Shape.TheVariants.{NoFrame, WithoutId, WithId}
use Rattle.frame.specs.Decoded.{shape_by, shape_of, size_in, frame_as_in}
use Rattle.frame.proofs.ByKind.{by_kind, frame_none, frame_by_kind, line_as, other_length}
use Rattle.frame.proofs.Ends.{frame_line}
use Rattle.convert.specs.Turns.{upper_zero}
use Rattle.convert.proofs.Zeros.{id_line}

-- a kind without an id is the same over every width
record Plain (k : ℕ) : Type 0 where
  size : (w v : ℕ) → size_in w k ≡ size_in v k
  is : (w v : ℕ) (b : List ℕ) → frame_as_in w k b ≡ frame_as_in v k b

-- one with an id is longer by the id's bytes, and zeros before an id leave its number as it is
record WithWidth (k : ℕ) : Type 0 where
  size : (w : ℕ) → size_in w k ≡ size_in 0 k + w
  is : (x : ℕ) (b : List ℕ) → frame_as_in id_size k (x ∷ (replicate half_size 0 ++ b)) ≡ frame_as_in half_size k (x ∷ b)

abbrev KindBy : ℕ → Shape → Type 0
KindBy k NoFrame = Unit {0}
KindBy k WithoutId = Plain k
KindBy k WithId = WithWidth k

kind_by : (w k : ℕ) (b : List ℕ) → KindBy k (shape_of (frame_as_in w k b))
unfolding frame_as_in size_in event_in read
kind_by w k b =
    by_kind (λ k. KindBy k (shape_of (frame_as_in w k b)))
    (record { size = λ v. omega arith; is = λ x b. refl })
    (record { size = λ v. omega arith; is = λ x b. refl })
    (record { size = λ v u. refl; is = λ v u b. refl })
    (record { size = λ v u. refl; is = λ v u b. refl })
    (record { size = λ v u. refl; is = λ v u b. refl })
    (record { size = λ v. omega arith; is = λ x b. refl })
    (record { size = λ v. omega arith; is = λ x b. refl })
    (λ k n. rw (frame_none w k n b) tt)
    k

-- so the first pair of a frame's line is a kind with an id if the frame has one
kind_of : (w : ℕ) (l : List ℕ) (f : Frame) → line_in w l ≡ Good f → KindBy (get_or (unhex l) 0 0) (shape_by (frame_id f))
kind_of w l f g = rw (frame_line w l f g).is at (kind_by w (get_or (unhex l) 0 0) (unhex l))

module _ (w v : ℕ) (l : List ℕ) (f : Frame) (g : line_in w l ≡ Good f) where
  pub same_without : frame_id f ≡ none → line_in v l ≡ Good f
  same_without n =
      let o = frame_line w l f g in
      let plain : Plain (get_or (unhex l) 0 0) = rw n at (kind_of w l f g) in
      line_as v l o.digits (omega (arith, o.size, plain.size w v)) ∙ plain.is v w (unhex l) ∙ o.is

  pub other_width : (i : ℕ) → frame_id f ≡ some i → (w ≡ v → ⊥) → line_in v l ≡ Bad
  other_width i h other =
      let width : WithWidth (get_or (unhex l) 0 0) = rw h at (kind_of w l f g) in
      other_length v l (λ e. other (omega (arith, (frame_line w l f g).size, width.size w, width.size v)))

-- the bytes of a frame with an id, and those with zeros before the id
module _ (k : ℕ) (width : WithWidth k) (b : List ℕ) where
  same_size : eqb (length (k ∷ (replicate half_size 0 ++ b))) (size_in id_size k) ≡ eqb (length (k ∷ b)) (size_in half_size k)
  same_size =
      let n = length (k ∷ b) in
      let long = length (k ∷ (replicate half_size 0 ++ b)) in
      let s = size_in half_size k in
      let sizes : size_in id_size k ≡ half_size + s = omega (arith, width.size id_size, width.size half_size) in
      cases (eqb n s)
      (λ e. rw e (eq-eqb long (size_in id_size k) (omega (arith, eqb-true n s e))))
      (λ e. rw e (ne_eqb long (size_in id_size k) (λ q. eqb-false n s e (omega arith))))

  widened_bytes : frame_in id_size (k ∷ (replicate half_size 0 ++ b)) ≡ frame_in half_size (k ∷ b)
  widened_bytes = frame_by_kind id_size _ ∙ rw (same_size, width.is k b, ← frame_by_kind half_size (k ∷ b))

-- what holds of two digits and more holds of each line that is so long
of_two : (P : List ℕ → Type 0) → ((x y : ℕ) (t : List ℕ) → P (x ∷ y ∷ t)) → (m : List ℕ) → 2 ≤ length m → P m
of_two P p [] h = absurd (omega arith)
of_two P p (x ∷ []) h = absurd (omega arith)
of_two P p (x ∷ y ∷ t) h = p x y t

first_kept : (m : List ℕ) → 2 ≤ length m → get_or (unhex (widened m)) 0 0 ≡ get_or (unhex m) 0 0
unfolding widened unhex
first_kept = of_two (λ m. get_or (unhex (widened m)) 0 0 ≡ get_or (unhex m) 0 0) (λ x y t. refl)

widened_line : (m : List ℕ) → 2 ≤ length m → WithWidth (get_or (unhex m) 0 0) → line_in id_size (widened m) ≡ line_in half_size m
unfolding line_in widened paired unhex digit
widened_line =
    of_two (λ m. WithWidth (get_or (unhex m) 0 0) → line_in id_size (widened m) ≡ line_in half_size m)
    (λ x y t width. ap (λ z. cond (paired (x ∷ y ∷ t)) z Bad) (widened_bytes (16 * digit x + digit y) width (unhex t)))

module _ (m : List ℕ) (f : Frame) (i : ℕ) (h : frame_id f ≡ some i) where
  pub frame_widened : line_in half_size m ≡ Good f → line_in id_size (widened m) ≡ Good f
  frame_widened g =
      let width : WithWidth (get_or (unhex m) 0 0) = rw h at (kind_of half_size m f g) in
      widened_line m (omega (arith, (id_line half_size m f i g h).long)) width ∙ g

  pub frame_narrowed : 2 ≤ length m → line_in id_size (widened m) ≡ Good f → line_in half_size m ≡ Good f
  frame_narrowed n g =
      let width : WithWidth (get_or (unhex m) 0 0) = rw (h, first_kept m n) at (kind_of id_size (widened m) f g) in
      sym (widened_line m n width) ∙ g

-- widened and narrowed; narrowed and widened, where the digits that were left out are all 0
pub narrowed_widened : (m : List ℕ) → 2 ≤ length m → narrowed (widened m) ≡ m
unfolding narrowed widened
narrowed_widened = of_two (λ m. narrowed (widened m) ≡ m) (λ x y t. refl)

pub upper_widened : (m : List ℕ) → 2 ≤ length m → upper_zero (widened m) ≡ true
unfolding upper_zero widened
upper_widened = of_two (λ m. upper_zero (widened m) ≡ true) (λ x y t. refl)

pub narrowed_length : (l : List ℕ) → 2 ≤ length l → 2 ≤ length (narrowed l)
unfolding narrowed
narrowed_length = of_two (λ l. 2 ≤ length (narrowed l)) (λ x y t. omega arith)

all_zero : (n : ℕ) (t : List ℕ) → n ≤ length t → each (λ c. eqb c 48) (take n t) ≡ true → replicate n 48 ++ drop n t ≡ t
all_zero n t h e =
    let zeros = rw (length-take-le n t h) at (replicated 48 (take n t) (λ c m. eqb-true c 48 (each_all (λ c. eqb c 48) (take n t) e c m))) in
    rw (← zeros) (take-append-drop n t)

pub widened_narrowed : (l : List ℕ) → kind_digits + half_digits ≤ length l → upper_zero l ≡ true → widened (narrowed l) ≡ l
unfolding upper_zero narrowed widened
widened_narrowed l h =
    of_two (λ l. kind_digits + half_digits ≤ length l → upper_zero l ≡ true → widened (narrowed l) ≡ l)
    (λ x y t h e. ap (λ r. x ∷ y ∷ r) (all_zero half_digits t (omega arith) e))
    l
    (omega arith)
    h
