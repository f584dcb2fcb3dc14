-- By what the line is.
use mathlib.Core.Path.{◌≡◌, refl, sym, ap, ◌∙◌}
use Prim.Native.Nat.{ℕ}
use mathlib.Core.List.{List, append-nil}
use mathlib.Core.Option.{some}
use native.Mathlib.Omega.{arith}
use Rattle.rules.specs.declared.Frame.{Frame}
use Rattle.rules.specs.declared.Line.TheVariants.{Good}
use Rattle.rules.specs.Records.{half_size, id_size}
use Rattle.rules.specs.Frames.{line_in}
use Rattle.rules.specs.Converted.{frame_id, widened, narrowed}
use Rattle.frame.specs.declared.Shape.{Shape}
use Rattle.frame.specs.declared.Shape.TheVariants.{WithId}
use Rattle.frame.specs.declared.Width.{Width}
use Rattle.frame.specs.Decoded.{width_of, shape_of}
use Rattle.convert.specs.Turns.{other_than, turned_to, written_at, turned_at, upper_zero}
use Rattle.convert.proofs.Zeros.{id_line}
use Rattle.convert.proofs.Shapes.{shape_none, shape_without, shape_with, turned_bad, turned_without, lengthened_with, shortened_with, refused_at, narrowed_at}
use Rattle.convert.proofs.turn.Goals as goal

-- an accepted line
as_turned : (l : List ℕ) (at : ℕ) (out : List ℕ) → written_at l at out ≡ turned_at (record { number = 0; line = l }) at out
unfolding turned_at
as_turned l at out = refl

-- a line with an id
record WithIdIn (w : ℕ) (l : List ℕ) : Type 0 where
  frame : Frame
  id : ℕ
  good : line_in w l ≡ Good frame
  has : frame_id frame ≡ some id

-- the shape that was found is that of the line
shape_is : (l : List ℕ) (to : Width) {s : Shape} {w : Width} → s ≡ shape_of (line_in (width_of w) l) → w ≡ other_than to → s ≡ shape_of (line_in (width_of (other_than to)) l)
shape_is l to e w = e ∙ ap (λ v. shape_of (line_in (width_of v) l)) w

-- a line that has an id, turned to a width
with_id : (l : List ℕ) (a to : Width) {s : Shape} → s ≡ shape_of (line_in (width_of (other_than a)) l) → s ≡ WithId → a ≡ to → WithIdIn (width_of (other_than to)) l
with_id l a to shape e t =
    let found = shape_with _ (ap (λ x. shape_of (line_in (width_of (other_than x)) l)) (sym t) ∙ sym shape ∙ e) in
    record { frame = found.0; id = found.1; good = found.2; has = found.3 }

pub narrow-requires : goal.narrow-requires
narrow-requires c =
    let a = c.args in
    let n = with_id a.line.now a.to _ (shape_is a.line.now a.to c.shape_of.ensures c.other_than.ensures) c.in-WithId.is c.in-Short.is in
    omega (arith, (id_line id_size _ n.frame n.id n.good n.has).long)

pub widen-requires : goal.widen-requires
widen-requires c =
    let a = c.args in
    let n = with_id a.line.now a.to _ (shape_is a.line.now a.to c.shape_of.ensures c.other_than.ensures) c.in-WithId.is c.in-Long.is in
    omega (arith, (id_line half_size _ n.frame n.id n.good n.has).long)

pub returns-in-NoFrame : goal.returns-in-NoFrame
returns-in-NoFrame c =
    let a = c.args in
    let shape = shape_is a.line.now a.to c.shape_of.ensures c.other_than.ensures in
    refused_at a.at a.out.now _ (turned_bad a.to a.line.now (shape_none _ (sym shape ∙ c.in-NoFrame.is)))

pub returns-in-WithoutId : goal.returns-in-WithoutId
returns-in-WithoutId c =
    let a = c.args in
    let shape = shape_is a.line.now a.to c.shape_of.ensures c.other_than.ensures in
    let f = shape_without _ (sym shape ∙ c.in-WithoutId.is) in
    c.write.ensures ∙ ap (λ l. written_at l a.at a.out.now) (append-nil a.line.now) ∙ as_turned a.line.now a.at a.out.now ∙ ap (λ t. turned_at t a.at a.out.now) (sym (turned_without a.to a.line.now f.0 f.1 f.2))

pub returns-in-Short : goal.returns-in-Short
returns-in-Short c =
    let a = c.args in
    let l = a.line.now in
    let n = with_id l a.to _ (shape_is l a.to c.shape_of.ensures c.other_than.ensures) c.in-WithId.is c.in-Short.is in
    c.narrow.ensures ∙ narrowed_at a.at a.out.now (narrowed l) (upper_zero l)
    ∙ ap (λ t. turned_at t a.at a.out.now) (sym (shortened_with l n.frame n.id n.good n.has) ∙ ap (λ w. turned_to w l) (sym c.in-Short.is))

pub returns-in-Long : goal.returns-in-Long
returns-in-Long c =
    let a = c.args in
    let l = a.line.now in
    let n = with_id l a.to _ (shape_is l a.to c.shape_of.ensures c.other_than.ensures) c.in-WithId.is c.in-Long.is in
    c.widen.ensures ∙ as_turned (widened l) a.at a.out.now
    ∙ ap (λ t. turned_at t a.at a.out.now) (sym (lengthened_with l n.frame n.id n.good n.has) ∙ ap (λ w. turned_to w l) (sym c.in-Long.is))
