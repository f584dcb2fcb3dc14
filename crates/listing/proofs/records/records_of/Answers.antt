use mathlib.Core.Path.{◌≡◌, ap, ◌∙◌}
use native.Mathlib.Omega.{arith}
use lib.ListN.{length, length-set}
use Rattle.rules.proofs.SoundState.{rules}
use Rattle.listing.proofs.Recorded.{recorded_more, recorded_all}
use Rattle.listing.proofs.records.records_of.Goals as goal

pub loop-i-init : goal.loop-i-init
loop-i-init c =
    let r = rules c.args.s c.requires in
    let e = c.no_records-records.ensures in
    (omega arith, r.count, r.full, ap length e, e)

pub loop-i-preserved : goal.loop-i-preserved
loop-i-preserved c =
    let l = c.loop-i in
    let s = c.args.s in (
      omega arith,
      l.invariant.1,
      l.invariant.2,
      simp length-set l.invariant.3,
      recorded_more s c.requires l.i _ (omega arith) l.invariant.4 c.from.ensures,
    )

pub returns : goal.returns
returns c =
    let l = c.loop-i in
    let z : l.i ≡ c.args.s.count = omega arith in
    rw z at l.invariant.4 ∙ recorded_all c.args.s c.requires
