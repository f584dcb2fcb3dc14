-- What is formed has an image's length; what is not gives the fresh schedule.
use mathlib.Core.Path.{◌≡◌, sym, ◌∙◌}
use mathlib.Core.Bool.{true, false, and-eq-true_iff}
use borrow.Author.Tests.{eqb-true}
use lib.Dec.{eqb}
use lib.ListN.{length}
use Rattle.rules.specs.Image.{image_size, formed}
use Rattle.image.specs.Exchange.{read_of}
use Rattle.image.proofs.read.Goals as goal

pub returns-then-not-is_formed : goal.returns-then-not-is_formed
unfolding read_of
returns-then-not-is_formed c = let bad : formed c.args.b.now ≡ false = sym c.is_formed.ensures ∙ c.if-not-is_formed.true in rw (bad, c.fresh.ensures)

pub schedule-requires : goal.schedule-requires
unfolding formed
schedule-requires c =
    let l = c.args.b.now in
    let well : formed l ≡ true = sym c.is_formed.ensures ∙ c.if-not-is_formed.false in
    eqb-true _ _ ((and-eq-true_iff (eqb (length l) image_size) _).0 well).0

pub returns : goal.returns
unfolding read_of
returns c = let well : formed c.args.b.now ≡ true = sym c.is_formed.ensures ∙ c.if-not-is_formed.false in rw (well, c.schedule.ensures)
