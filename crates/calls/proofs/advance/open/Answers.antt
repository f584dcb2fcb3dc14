-- A quiet second is counted; else nothing changes.
use mathlib.Core.Path.{refl, sym, ◌∙◌}
use mathlib.Core.Bool.{true, false}
use Rattle.rules.proofs.Tests.{both}
use Rattle.calls.proofs.advance.open.Goals as goal

pub returns-then-quiet : goal.returns-then-quiet
returns-then-quiet c =
    record {
      counts = λ e. c.count.ensures;
      stays = λ e. both true refl (sym c.if-quiet.true ∙ e);
      standing = rw c.if-quiet.true;
    }

pub returns : goal.returns
returns c = record { counts = λ e. both false (sym c.if-quiet.false ∙ e) refl; stays = λ e. refl; standing = rw c.if-quiet.false }
