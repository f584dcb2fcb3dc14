-- A buffer of another length is left alone; in one of the image's length its parts stand one after the other.
use borrow.Author.Tests.{ne_eqb}
use Rattle.rules.proofs.Lengths.{lengths}
use Rattle.image.specs.Exchange.{written_to}
use Rattle.image.proofs.Whole.{written}
use Rattle.image.proofs.write.Goals as goal

pub returns-then-out-ne-SIZE : goal.returns-then-out-ne-SIZE
unfolding written_to
returns-then-out-ne-SIZE c = simp (ne_eqb _ _ c.if-out-ne-SIZE.true)

pub returns : goal.returns
returns c =
    let s = c.args.s in
    written s (lengths s _ c.well_formed.0) c.args.out.now c.if-out-ne-SIZE.false c.write_at.ensures c.put.ensures c.put_all.ensures c.put_all-2.ensures
