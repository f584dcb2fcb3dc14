-- 14, or the holder, or the default.
use mathlib.Core.Path.{refl, sym, ap, ◌∙◌}
use Rattle.rules.specs.Records.{last_control}
use borrow.Author.Tests.{lt-ltb, le-ltb}
use Rattle.rules.specs.Refusals.{ask_checks}
use Rattle.rules.specs.Calls.{ask, answer_for, holder_in, default_for, best_default, does, checks}
use Rattle.rules.proofs.CallLaws.{done}
use Rattle.rules.specs.Records.{view}
use Rattle.rules.specs.declared.Refusal.TheVariants.{NoSuchControl}
use Rattle.calls.proofs.Slots.{unused, says}
use Rattle.calls.proofs.Acting.{refuses}
use native.Mathlib.Omega.{arith}
use mathlib.Core.List.{[]}
use Rattle.calls.proofs.programs.ask.Goals as goal

pub returns-then-control-gt-LAST_CONTROL : goal.returns-then-control-gt-LAST_CONTROL
unfolding checks ask_checks
returns-then-control-gt-LAST_CONTROL c =
    refuses c.args.s.now.schedule c.args.s.now.good (ask c.args.control) NoSuchControl refl refl (rw (lt-ltb last_control _ c.if-control-gt-LAST_CONTROL.true))

pub holder_or-requires : goal.holder_or-requires
holder_or-requires c = omega (arith, c.if-control-gt-LAST_CONTROL.false)

pub returns : goal.returns
unfolding checks ask_checks does answer_for
returns c =
    let s = c.args.s.now.schedule in
    let looked = c.holder_or.ensures in
    rw (looked, c.events.ensures, c.default_of-other.ensures)
    (ap (λ z. record { number = 0; value = holder_in c.args.control (view s).entries (default_for (best_default c.args.control 0 s.programs)); state = z; bytes = []; records = [] }) (says s (unused s c.args.s.now.good))
    ∙ sym (done s c.args.s.now.good (ask c.args.control) (rw (le-ltb last_control _ c.if-control-gt-LAST_CONTROL.false))))
