-- What a call returned and left behind, read as an outcome of the definitions.
use Rattle.std.specs.Prelude.{ℕ, List, [], Result, Ok, Err}
use Rattle.rules.specs.declared.Refusal.{Refusal}
use Rattle.rules.specs.declared.Reply.{Reply}
use Rattle.rules.specs.declared.Record.{Record}
use Rattle.rules.specs.declared.Schedule.{Schedule}
use Rattle.rules.specs.Calls.{Outcome, refusal_number, number_of, value_of}
use Rattle.calls.specs.declared.Answered.{Answered}

-- of a call by value: number and value of the answer, the schedule, the lent buffer and the lent list as the call ended
abbrev pub outcome_of : Answered → List ℕ → List Record → Outcome
outcome_of r bytes records =
    record { number = number_of r.answer; value = value_of r.answer; state = r.schedule; bytes = bytes; records = records }

-- a refusal by value
abbrev pub refused_with : Refusal → Schedule → Answered
refused_with e s = record { answer = Err e; schedule = s }

-- of a call on a schedule in place that is lent nothing else: the answer, and the schedule as the call ended
abbrev pub told : Result Reply Refusal → Schedule → Outcome
told a s = record { number = number_of a; value = value_of a; state = s; bytes = []; records = [] }

-- the number that a test gives, 0 if it refuses nothing
abbrev pub checked : Result (Unit {0}) Refusal → ℕ
checked (Ok u) = 0
checked (Err e) = refusal_number e
