use Prim.Native.Nat.{◌≤◌}
use native.Mathlib.Omega.{arith}
use lib.ListN.{length}
use lib.Seq.{drop-drop}
use Rattle.frame.proofs.Ends.{rest_of}
use Rattle.converter.specs.Pieces.{block_size}
use Rattle.converter.proofs.Printing.{takes_all, sent_none, sent_more, sent_block, sent_all}
use Rattle.converter.proofs.Output.print_lines.Goals as goal

pub loop-to-init : goal.loop-to-init
loop-to-init g c =
    let o = c.self.inside in
    (c.self.invariant.0, rw c.self.view_is at (sent_none c.args.to c.args.piece.now o.end o.buffer))

pub returns-then-some-lt-BLOCK : goal.returns-then-some-lt-BLOCK
returns-then-some-lt-BLOCK g c =
    let l = c.loop-to in
    let some = c.print_some-some.ensures in
    let rest = rest_of c.args.piece.now l.from in
    let sent = sent_more l.invariant.1 rest some in
    let none = rw (rest, drop-drop) at (some.all c.if-some-lt-BLOCK.true) in
    record {
      within = sent.takes.within;
      blocks = sent.blocks;
      texts = sent_all sent none;
      none_left = none;
      goes_on = takes_all sent.takes c.args.to none;
    }

pub loop-to-preserved : goal.loop-to-preserved
loop-to-preserved g c =
    let l = c.loop-to in
    let some = c.print_some-some in
    let sent = sent_more l.invariant.1 (rest_of c.args.piece.now l.from) some.ensures in
    let block : block_size ≤ some.result.pending = c.if-some-lt-BLOCK.false in
    let there : some.result.pending ≤ length some.new.out = omega (arith, some.ensures.fits) in
    sent_block sent block some.ensures.fits there c.keep-self-inside.ensures.is
