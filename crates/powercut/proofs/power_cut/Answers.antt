-- The promise is the theorem. What is loaded is the schedule that was stored, so it goes on as that does.
use mathlib.Core.Path.{◌≡◌, ap}
use mathlib.Core.List.{List}
use Rattle.rules.specs.declared.Schedule.{Schedule}
use Rattle.rules.specs.Lists.{All}
use Rattle.rules.specs.Calls.{Call, call, run, joined}
use Rattle.rules.specs.Arrival.{after}
use Rattle.rules.specs.Clauses.{ImageKept}
use Rattle.powercut.specs.PowerCut.{Fits, GoesOn}
use Rattle.powercut.proofs.Fitting.{storable_after, stored}
use Rattle.powercut.proofs.Host.{host}
use Rattle.powercut.proofs.power_cut.Goals as goal

goes_on : (r s : Schedule) → r ≡ s → GoesOn r s
goes_on r s e = record { states = λ ds. ap (λ x. run x ds) e; rows = λ ds. ap (λ x. joined x ds) e; calls = λ ds c. ap (λ x. call (run x ds) c) e }

kept : (cs : List Call) → All Fits cs → ImageKept (after cs)
kept cs f = stored (after cs) (storable_after cs f)

pub returns : goal.returns
returns c = record { stored = kept; goes_on = λ cs f. goes_on _ _ (kept cs f).back; host = host }
