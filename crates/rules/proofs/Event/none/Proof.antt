-- Its id is that of 0, and every other field is 0.
use mathlib.Core.Path.{ap}
use borrow.Author.Rules.{rules}
use Rattle.rules.specs.declared.Id.{Id}
use Rattle.rules.specs.declared.Event.{Event}
use Rattle.rules.proofs.Event.none.Statement.{statement}
use Rattle.rules.proofs.Event.none.Tie as tie

abbrev with-id : Id → Event
with-id i =
    record {
      id = i;
      program = 0;
      controls = 0;
      created = 0;
      start = 0;
      duration = 0;
      randomize_start = 0;
      randomize_duration = 0;
      start_draw = 0;
      duration_draw = 0;
    }

returns : tie.Need-returns
returns c = ap with-id c.of.ensures

pub none_spec : {M : Type 1} → statement M
none_spec = tie.close (tie.spec (λ c κs. search rules) returns)
