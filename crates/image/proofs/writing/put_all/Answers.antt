use mathlib.Core.Path.{sym}
use native.Mathlib.Omega.{arith}
use Rattle.rules.specs.Bytes.{flat}
use Rattle.rules.proofs.Over.{over_none}
use Rattle.image.proofs.InRows.{wrote_more}
use Rattle.image.proofs.writing.put_all.Goals as goal

pub loop-i-init : goal.loop-i-init
unfolding flat
loop-i-init g c = sym (over_none c.args.at c.args.out.now)

pub loop-i-preserved : goal.loop-i-preserved
loop-i-preserved g c =
    let l = c.loop-i in
    let a = c.args in
    wrote_more g.P.Part.bytes g.P.Part.SIZE g.met.P.Part.sized a.parts.now a.at a.out.now c.index-parts-i.result l.i c.loop-i-test.true (omega (arith, c.requires)) l.invariant (cc (c.put.ensures, c.SIZE.ensures, c.index-parts-i.is))
