-- Every line is no frame, a frame without an id, or one with an id; so the request's sentences on one line, case by case.
use mathlib.Core.Path.{◌≡◌, refl, sym, ap, ◌∙◌}
use mathlib.Core.Logic.{◌↔◌}
use Prim.Native.Nat.{ℕ, ◌≤◌}
use mathlib.Core.Bool.{true, false, not}
use mathlib.Core.List.{List}
use mathlib.Core.Option.{Option, none, some}
use native.Mathlib.Omega.{arith}
use borrow.Author.Tests.{leb-true, le-leb, not-true}
use borrow.Table.Steps.{cases}
use lib.ListN.{length}
use Rattle.rules.specs.declared.Frame.{Frame}
use Rattle.rules.specs.declared.Line.{Line}
use Rattle.rules.specs.declared.Line.TheVariants.{Good, Bad}
use Rattle.rules.specs.Records.{half_size, id_size, half_limit}
use Rattle.rules.specs.Frames.{line_in, line_of}
use Rattle.rules.specs.Converted.{frame_id, widened, narrowed, lengthened, shortened}
use Rattle.frame.specs.declared.Width.TheVariants.{Short, Long}
use Rattle.convert.specs.Turns.{upper_zero}
use Rattle.convert.specs.Recorded.{becomes}
use Rattle.convert.proofs.Zeros.{id_line, wide_digits}
use Rattle.convert.proofs.Shapes.{turned_bad, turned_without, lengthened_with, shortened_with}
use Rattle.convert.proofs.Widths.{same_without, other_width, frame_widened, frame_narrowed, narrowed_widened, upper_widened, narrowed_length, widened_narrowed}

by_id : {P : Type 0} (x : Line) → (x ≡ Bad → P) → ((f : Frame) → x ≡ Good f → frame_id f ≡ none → P) → ((f : Frame) (i : ℕ) → x ≡ Good f → frame_id f ≡ some i → P) → P
by_id Bad bad without with_id = bad refl
by_id {P} (Good f) bad without with_id = go (frame_id f) refl
  where
    go : (o : Option ℕ) → frame_id f ≡ o → P
    go none h = without f refl h
    go (some i) h = with_id f i refl h

-- a line with an id, narrowed: by the digits of its upper half, and by its number
module _ (l : List ℕ) (f : Frame) (i : ℕ) (g : line_of l ≡ Good f) (h : frame_id f ≡ some i) where
  shortened_zero : upper_zero l ≡ true → shortened l ≡ becomes (narrowed l)
  shortened_zero z = shortened_with l f i g h ∙ rw z

  shortened_wide : upper_zero l ≡ false → (shortened l).number ≡ 15
  shortened_wide z = rw (shortened_with l f i g h, z)

  is_wide : upper_zero l ≡ false → half_limit ≤ i
  is_wide z = leb-true half_limit i (wide_digits l f i g h ∙ ap not z)

  too_wide : half_limit ≤ i → (shortened l).number ≡ 15
  too_wide n = shortened_wide (not-true (upper_zero l) (sym (wide_digits l f i g h) ∙ le-leb half_limit i n))

-- what becomes of a line, in each case
module _ {P : Type 0} (l : List ℕ) where
  lengthening : (line_in half_size l ≡ Bad → (lengthened l).number ≡ 1 → P)
      → ((f : Frame) → line_in half_size l ≡ Good f → frame_id f ≡ none → lengthened l ≡ becomes l → P)
      → ((f : Frame) (i : ℕ) → line_in half_size l ≡ Good f → frame_id f ≡ some i → lengthened l ≡ becomes (widened l) → P) → P
  lengthening bad without with_id =
      by_id (line_in half_size l)
      (λ b. bad b (turned_bad Long l b))
      (λ f g h. without f g h (turned_without Long l f g h))
      (λ f i g h. with_id f i g h (lengthened_with l f i g h))

  shortening : (line_of l ≡ Bad → (shortened l).number ≡ 1 → P)
      → ((f : Frame) → line_of l ≡ Good f → frame_id f ≡ none → shortened l ≡ becomes l → P)
      → ((f : Frame) (i : ℕ) → line_of l ≡ Good f → frame_id f ≡ some i → upper_zero l ≡ true → shortened l ≡ becomes (narrowed l) → P)
      → ((f : Frame) (i : ℕ) → line_of l ≡ Good f → frame_id f ≡ some i → half_limit ≤ i → (shortened l).number ≡ 15 → P) → P
  shortening bad without narrow wide =
      by_id (line_of l)
      (λ b. bad b (turned_bad Short l b))
      (λ f g h. without f g h (turned_without Short l f g h))
      (λ f i g h. cases (upper_zero l)
      (λ z. narrow f i g h z (shortened_zero l f i g h z))
      (λ z. wide f i g h (is_wide l f i g h z) (shortened_wide l f i g h z)))

-- a line with an id, there and back
module _ (l : List ℕ) (f : Frame) (i : ℕ) (h : frame_id f ≡ some i) where
  widened_back : line_in half_size l ≡ Good f → shortened (widened l) ≡ becomes l
  widened_back g =
      let n : 2 ≤ length l = omega (arith, (id_line half_size l f i g h).long) in
      shortened_zero (widened l) f i (frame_widened l f i h g) h (upper_widened l n) ∙ ap becomes (narrowed_widened l n)

  module _ (g : line_of l ≡ Good f) (zero : upper_zero l ≡ true) where
    back : widened (narrowed l) ≡ l
    back = widened_narrowed l (omega (arith, (id_line id_size l f i g h).long)) zero

    narrowed_frame : line_in half_size (narrowed l) ≡ Good f
    narrowed_frame =
        let n = narrowed_length l (omega (arith, (id_line id_size l f i g h).long)) in
        frame_narrowed (narrowed l) f i h n (ap line_of back ∙ g)

    narrowed_forth : lengthened (narrowed l) ≡ becomes l
    narrowed_forth = lengthened_with (narrowed l) f i narrowed_frame h ∙ ap becomes back

module _ (l : List ℕ) where
  pub lengthen_refuses : ((lengthened l).number ≡ 1) ↔ (line_in half_size l ≡ Bad)
  lengthen_refuses = (
    λ e.
        lengthening l
        (λ b n. b)
        (λ f g h is. absurd (omega (arith, rw is at e)))
        (λ f i g h is. absurd (omega (arith, rw is at e))),
    turned_bad Long l,
  )

  pub shorten_refuses : ((shortened l).number ≡ 1) ↔ (line_of l ≡ Bad)
  shorten_refuses = (
    λ e.
        shortening l
        (λ b n. b)
        (λ f g h is. absurd (omega (arith, rw is at e)))
        (λ f i g h z is. absurd (omega (arith, rw is at e)))
        (λ f i g h w n. absurd (omega arith)),
    turned_bad Short l,
  )

  pub shorten_too_wide : ((shortened l).number ≡ 15) ↔ ((f : Frame) × (i : ℕ) × (line_of l ≡ Good f) × (frame_id f ≡ some i) × (half_limit ≤ i))
  shorten_too_wide = (
    λ e.
        shortening l
        (λ b n. absurd (omega arith))
        (λ f g h is. absurd (omega (arith, rw is at e)))
        (λ f i g h z is. absurd (omega (arith, rw is at e)))
        (λ f i g h w n. (f, i, g, h, w)),
    λ s. too_wide l s.0 s.1 s.2 s.3 s.4,
  )

  pub and_back : (lengthened l).number ≡ 0 → shortened (lengthened l).line ≡ becomes l
  and_back e =
      lengthening l
      (λ b n. absurd (omega arith))
      (λ f g h is. rw is (turned_without Short l f (same_without half_size id_size l f g h) h))
      (λ f i g h is. rw is (widened_back l f i h g))

  pub and_forth : (shortened l).number ≡ 0 → lengthened (shortened l).line ≡ becomes l
  and_forth e =
      shortening l
      (λ b n. absurd (omega arith))
      (λ f g h is. rw is (turned_without Long l f (same_without id_size half_size l f g h) h))
      (λ f i g h z is. rw is (narrowed_forth l f i h g z))
      (λ f i g h w n. absurd (omega arith))

  pub lengthened_frame : (lengthened l).number ≡ 0 → line_of (lengthened l).line ≡ line_in half_size l
  lengthened_frame e =
      lengthening l
      (λ b n. absurd (omega arith))
      (λ f g h is. rw is (same_without half_size id_size l f g h ∙ sym g))
      (λ f i g h is. rw is (frame_widened l f i h g ∙ sym g))

  pub shortened_frame : (shortened l).number ≡ 0 → line_in half_size (shortened l).line ≡ line_of l
  shortened_frame e =
      shortening l
      (λ b n. absurd (omega arith))
      (λ f g h is. rw is (same_without id_size half_size l f g h ∙ sym g))
      (λ f i g h z is. rw is (narrowed_frame l f i h g z ∙ sym g))
      (λ f i g h w n. absurd (omega arith))

  module _ (f : Frame) (i : ℕ) where
    pub long_already : line_of l ≡ Good f → frame_id f ≡ some i → (lengthened l).number ≡ 1
    long_already g h = turned_bad Long l (other_width id_size half_size l f g i h (λ e. omega arith))

    pub short_already : line_in half_size l ≡ Good f → frame_id f ≡ some i → (shortened l).number ≡ 1
    short_already g h = turned_bad Short l (other_width half_size id_size l f g i h (λ e. omega arith))
