-- Kind by kind, its fields, which are all there.
use mathlib.Core.Path.{sym, ap, ◌∙◌}
use native.Mathlib.Omega.{arith}
use Rattle.rules.specs.declared.Frame.TheVariants as frame
use Rattle.rules.specs.declared.Line.TheVariants.{Good}
use Rattle.rules.specs.Records.{id_size}
use Rattle.octets.proofs.Fits.{get_inside, get_fits, id_inside, event_inside}
use Rattle.frame.specs.Decoded.{frame_as_in}
use Rattle.frame.proofs.Fronts.{read_one}
use Rattle.frame.proofs.ByKind.{no_kind, frame_none}
use Rattle.frame.proofs.fields.frame_as.Goals as goal

pub returns-in-1 : goal.returns-in-1
unfolding frame_as_in
returns-in-1 c =
    let event = c.get_event.ensures ∙ event_inside _ _ (omega arith) in
    rw (c.in-1.is, event)

pub returns-in-2 : goal.returns-in-2
unfolding frame_as_in
returns-in-2 c = rw c.in-2.is (ap (λ i. Good (frame.Cancel i)) (c.get_id.ensures ∙ id_inside _ _ (omega arith)))

pub returns-in-3 : goal.returns-in-3
unfolding frame_as_in
returns-in-3 c =
    let time = c.get.ensures ∙ get_inside _ _ _ (omega arith) (omega arith) in
    rw c.in-3.is (ap (λ t. Good (frame.Clock t)) time)

pub overflow_cast-defaults : goal.overflow_cast-defaults
overflow_cast-defaults c = record { fits = get_fits _ (λ i. (c.type_inv.b i).fits) 4 3 (omega arith) (omega arith) c.get-defaults.ensures }

pub returns-in-4 : goal.returns-in-4
unfolding frame_as_in
returns-in-4 c =
    let b = c.args.b.now in
    rw (c.in-4.is, c.get-defaults.ensures, get_inside 4 3 b (omega arith) (omega arith), read_one 1 b, read_one 2 b)

pub returns-in-5 : goal.returns-in-5
unfolding frame_as_in
returns-in-5 c = rw (c.in-5.is, read_one 1 c.args.b.now)

pub returns-in-6 : goal.returns-in-6
unfolding frame_as_in
returns-in-6 c = rw (c.in-6.is, c.get_id-in-6.ensures ∙ id_inside _ _ (omega arith))

pub returns-in-7 : goal.returns-in-7
unfolding frame_as_in
returns-in-7 c = rw (c.in-7.is, c.get_id-in-7.ensures ∙ id_inside _ _ (omega arith))

pub returns-in_default : goal.returns-in_default
returns-in_default c = sym (frame_none id_size _ (no_kind c.in_default.in_default-own.rest) _)
