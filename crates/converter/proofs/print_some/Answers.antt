use Rattle.frame.proofs.Ends.{rest_of}
use Rattle.converter.proofs.Printing.{printing_none, printed_end, printing_more}
use Rattle.converter.proofs.print_some.Goals as goal

pub loop-at-init : goal.loop-at-init
loop-at-init c = printing_none _ _ c.requires

pub loop-at-preserved : goal.loop-at-preserved
loop-at-preserved c = printing_more c.requires c.loop-at.invariant (rest_of c.args.piece.now c.loop-at.from) c.in-Some.ensures c.loop-at-test.true

pub returns-in_default : goal.returns-in_default
returns-in_default c = printed_end c.requires c.loop-at.invariant (rest_of c.args.piece.now c.loop-at.from) c.in_default.ensures
