-- The promise is the theorem: the clauses, each by its law.
use Rattle.rules.proofs.IdClause.{id_clauses}
use Rattle.rules.proofs.Earliest.{earliest_clauses}
use Rattle.rules.proofs.Ranks.{better_self, better_trans, better_one}
use Rattle.rules.proofs.Interval.{holding_clauses}
use Rattle.rules.proofs.RowLaws.{row_clauses}
use Rattle.rules.proofs.Claims.{code_cancelled}
use Rattle.rules.proofs.Nobody.{blocks_nobody}
use Rattle.rules.proofs.Bound.{two_rows, few_rows}
use Rattle.rules.proofs.RowOrder.{in_order}
use Rattle.rules.proofs.SoundState.{sound_view}
use Rattle.rules.proofs.SoundKept.{sound_call}
use Rattle.rules.proofs.CallLaws.{call_clauses}
use Rattle.rules.proofs.Choosing.{choice_clauses, choosing_clauses}
use Rattle.rules.proofs.Defaults.{default_clause}
use Rattle.rules.proofs.FaceLaws.{answer_clause, face_clauses}
use Rattle.rules.proofs.Room.{program_clause}
use Rattle.rules.proofs.Jump.{quiet_second}
use Rattle.rules.specs.Records.{view}
use Rattle.rules.proofs.clauses.Statement.{statement}
use Rattle.rules.proofs.clauses.Tie as tie

returns : tie.Need-returns
returns c = record {
  ids = id_clauses;
  earliest = earliest_clauses;
  rank = record { strict = better_self; transitive = better_trans; total = better_one };
  holding = holding_clauses;
  rows = row_clauses;
  moments = record { blocks_nobody = blocks_nobody; silent = code_cancelled; two_rows = two_rows; in_order = in_order; few_rows = few_rows; quiet = λ s e. quiet_second (view s) (sound_view s e) };
  choices = choice_clauses;
  calls = call_clauses;
  choosing = choosing_clauses;
  defaults = default_clause;
  answers = answer_clause;
  face = face_clauses;
  program = program_clause;
  sound = record { kept = sound_call };
}

pub clauses_spec : {M : Type 1} → statement M
clauses_spec = tie.close (tie.spec returns)
