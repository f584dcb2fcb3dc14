-- What becomes of a line, by what it is.
use mathlib.Core.Path.{◌≡◌, refl}
use Prim.Native.Nat.{ℕ, ◌≤◌}
use mathlib.Core.Bool.{Bool, true, false, cond, not}
use mathlib.Core.List.{List}
use mathlib.Core.Option.{Option, none, some}
use native.Mathlib.Omega.{arith}
use borrow.Author.Tests.{eqb-true}
use lib.Dec.{eqb, ltb}
use lib.ListN.{length, get_or}
use Rattle.rules.specs.declared.Frame.{Frame}
use Rattle.rules.specs.declared.Line.{Line}
use Rattle.rules.specs.declared.Line.TheVariants.{Good, Bad}
use Rattle.rules.specs.Lists.{over}
use Rattle.rules.specs.Records.{half_size, id_size}
use Rattle.rules.specs.Calls.{nothing, count, counted}
use Rattle.rules.specs.Frames.{unhex, line_in}
use Rattle.rules.specs.Converted.{frame_id, widened, narrowed, Turned, lengthened, shortened, LineOutcome, turned_into}
use Rattle.frame.specs.declared.Width.{Width}
use Rattle.frame.specs.declared.Width.TheVariants.{Short, Long}
use Rattle.frame.specs.declared.Shape.{Shape}
use Rattle.frame.specs.declared.Shape.TheVariants.{NoFrame, WithoutId, WithId}
use Rattle.frame.specs.Decoded.{width_of, shape_by, shape_of, longest_line}
use Rattle.frame.proofs.ByKind.{width_size}
use Rattle.frame.proofs.Ends.{frame_line}
use Rattle.convert.specs.Turns.{other_than, turned_to, upper_zero, refused_line, written_at, turned_at}
use Rattle.convert.proofs.Zeros.{id_line, wide_digits}
use Rattle.convert.proofs.Written.{widened_length, narrowed_length}

-- what a shape says of a line
pub shape_none : (x : Line) → shape_of x ≡ NoFrame → x ≡ Bad
shape_none Bad e = refl
shape_none (Good f) e = by (frame_id f) e
  where
    by : (o : Option ℕ) → shape_by o ≡ NoFrame → Good f ≡ Bad
    by none e = let z : ◌≡◌ {A = ℕ} 0 1 = cc in absurd (omega arith)
    by (some i) e = let z : ◌≡◌ {A = ℕ} 0 1 = cc in absurd (omega arith)

pub shape_without : (x : Line) → shape_of x ≡ WithoutId → (f : Frame) × (x ≡ Good f) × (frame_id f ≡ none)
shape_without Bad e = let z : ◌≡◌ {A = ℕ} 0 1 = cc in absurd (omega arith)
shape_without (Good f) e = by (frame_id f) refl e
  where
    by : (o : Option ℕ) → frame_id f ≡ o → shape_by o ≡ WithoutId → (g : Frame) × (Good f ≡ Good g) × (frame_id g ≡ none)
    by none i e = (f, refl, i)
    by (some i) j e = let z : ◌≡◌ {A = ℕ} 0 1 = cc in absurd (omega arith)

pub shape_with : (x : Line) → shape_of x ≡ WithId → (f : Frame) × (i : ℕ) × (x ≡ Good f) × (frame_id f ≡ some i)
shape_with Bad e = let z : ◌≡◌ {A = ℕ} 0 1 = cc in absurd (omega arith)
shape_with (Good f) e = by (frame_id f) refl e
  where
    by : (o : Option ℕ) → frame_id f ≡ o → shape_by o ≡ WithId → (g : Frame) × (i : ℕ) × (Good f ≡ Good g) × (frame_id g ≡ some i)
    by none j e = let z : ◌≡◌ {A = ℕ} 0 1 = cc in absurd (omega arith)
    by (some i) j e = (f, i, refl, j)

-- no frame, and a frame without an id, both ways
pub turned_bad : (to : Width) (l : List ℕ) → line_in (width_of (other_than to)) l ≡ Bad → (turned_to to l).number ≡ 1
unfolding lengthened shortened
turned_bad Short l e = rw e
turned_bad Long l e = rw e

pub turned_without : (to : Width) (l : List ℕ) (f : Frame) → line_in (width_of (other_than to)) l ≡ Good f → frame_id f ≡ none → turned_to to l ≡ record { number = 0; line = l }
unfolding lengthened shortened
turned_without Short l f e h = rw (e, h)
turned_without Long l f e h = rw (e, h)

-- a frame with an id
module _ (l : List ℕ) (f : Frame) (i : ℕ) where
  pub lengthened_with : line_in half_size l ≡ Good f → frame_id f ≡ some i → lengthened l ≡ record { number = 0; line = widened l }
  unfolding lengthened
  lengthened_with e h = rw (e, h)

  pub shortened_with : line_in id_size l ≡ Good f → frame_id f ≡ some i → shortened l ≡ record { number = cond (upper_zero l) 0 15; line = narrowed l }
  unfolding shortened
  shortened_with e h = rw (e, h, wide_digits l f i e h) (by (upper_zero l))
    where
      by : (b : Bool) → ◌≡◌ {A = Turned} (record { number = cond (not b) 15 0; line = narrowed l }) (record { number = cond b 0 15; line = narrowed l })
      by true = refl
      by false = refl

-- the outcome of a refused line, and of one that may be refused with 15
module _ (at : ℕ) (out : List ℕ) where
  pub refused_at : (t : Turned) → t.number ≡ 1 → refused_line 1 out ≡ turned_at t at out
  unfolding turned_at
  refused_at t e = rw e

  pub narrowed_at : (l : List ℕ) (zero : Bool) → cond zero (written_at l at out) (refused_line 15 out) ≡ turned_at (record { number = cond zero 0 15; line = l }) at out
  unfolding turned_at
  narrowed_at l true = refl
  narrowed_at l false = refl

-- no turned line is longer than a frame can be
pub turned_short : (to : Width) (l : List ℕ) → (turned_to to l).number ≡ 0 → length (turned_to to l).line ≤ longest_line
turned_short to l h = by (shape_of (line_in (width_of (other_than to)) l)) refl
  where
    with : (w : Width) (f : Frame) (i : ℕ) → line_in (width_of (other_than w)) l ≡ Good f → frame_id f ≡ some i → length (turned_to w l).line ≤ longest_line
    with Short f i g e =
        let line = id_line id_size l f i g e in
        rw (shortened_with l f i g e) (omega (arith, line.short, line.long, narrowed_length l (omega (arith, line.long))))
    with Long f i g e =
        let line = id_line half_size l f i g e in
        rw (lengthened_with l f i g e) (omega (arith, line.short, widened_length l (omega (arith, line.long))))

    by : (s : Shape) → shape_of (line_in (width_of (other_than to)) l) ≡ s → length (turned_to to l).line ≤ longest_line
    by NoFrame e = absurd (omega (arith, turned_bad to l (shape_none _ e)))
    by WithoutId e =
        let f = shape_without _ e in
        let line = frame_line (width_of (other_than to)) l f.0 f.1 in
        rw (turned_without to l f.0 f.1 f.2) (omega (arith, line.size, width_size (other_than to) (get_or (unhex l) 0 0)))
    by WithId e = let f = shape_with _ e in with to f.0 f.1 f.2 f.3

-- so no answer counts more bytes
few_written : (to : Width) (l out : List ℕ) → counted (turned_into (turned_to to l) out).value ≤ longest_line
unfolding turned_into
few_written to l out = by (eqb t.number 0) refl (ltb (length out) (length t.line))
  where
    t : Turned
    t = turned_to to l

    outcome : ℕ → LineOutcome
    outcome n = cond (eqb n 0) (record { number = 0; value = count (length t.line); bytes = over t.line out }) (record { number = n; value = nothing; bytes = out })

    by : (a : Bool) → eqb t.number 0 ≡ a → (b : Bool) → counted (outcome (cond (not a) t.number (cond b 13 0))).value ≤ longest_line
    by true e true = omega arith
    by true e false = turned_short to l (eqb-true t.number 0 e)
    by false e b = rw e (omega arith)

pub few_lengthened : (l out : List ℕ) → counted (turned_into (lengthened l) out).value ≤ longest_line
few_lengthened = few_written Long

pub few_shortened : (l out : List ℕ) → counted (turned_into (shortened l) out).value ≤ longest_line
few_shortened = few_written Short
