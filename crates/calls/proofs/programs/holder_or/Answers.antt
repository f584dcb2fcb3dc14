use mathlib.Core.Path.{sym, ◌∙◌}
use native.Mathlib.Omega.{arith}
use Rattle.rules.specs.Calls.{reply_value}
use Rattle.calls.proofs.Asking.{held_here, not_here, none_holds}
use Rattle.calls.proofs.programs.holder_or.Goals as goal

pub is_governor-requires : goal.is_governor-requires
is_governor-requires c = c.requires

pub returns-then-is_governor : goal.returns-then-is_governor
returns-then-is_governor c =
    let l = c.loop-h in
    let a = c.args in
    held_here a.control a.events.now (reply_value a.other) l.h-index (omega arith) (sym c.is_governor.ensures ∙ c.if-is_governor.true) ∙ sym l.invariant

pub loop-h-preserved : goal.loop-h-preserved
loop-h-preserved c =
    let l = c.loop-h in
    let a = c.args in
    l.invariant ∙ not_here a.control a.events.now (reply_value a.other) l.h-index (omega arith) (sym c.is_governor.ensures ∙ c.if-is_governor.false)

pub returns : goal.returns
returns c =
    let l = c.loop-h in
    let a = c.args in
    none_holds a.control a.events.now (reply_value a.other) l.h-index (omega arith) ∙ sym l.invariant
