-- The loop has passed the moments up to a clock, and t is the time of the next change.
use mathlib.Core.Path.{◌≡◌}
use Prim.Native.Nat.{ℕ, ◌+◌, ◌-◌, ◌/◌, ◌<◌}
use mathlib.Core.List.{List}
use lib.ListN.{get_or}
use Rattle.rules.specs.declared.Entry.{Entry}
use Rattle.calls.specs.declared.clock.Standing.{Standing}
use Rattle.calls.specs.declared.held.Head.{Head}
use Rattle.calls.specs.Agenda.{second_width}
use Rattle.calls.specs.Moment.{Steady}
use Rattle.calls.proofs.Advancing.{Going}
use Rattle.calls.proofs.advance.moments.Given as goal

-- the moments up to a clock are passed, of what the slots w were when the function began; and a quiet second would set no mark
abbrev pub Stands : Head → List Entry → ℕ → List ℕ → List ℕ → List Entry → List ℕ → ℕ → ℕ → Standing → ℕ → Type 0
Stands d w to agenda old slots rows k t s ended =
    (clock : ℕ) × Going d w to agenda old slots rows s ended clock k × (t ≡ get_or agenda k 0 / second_width) × (clock + 1 < t → clock < to → Steady d slots)

-- since the function began
abbrev pub invariant-loop-t : goal.invariant-loop-t
invariant-loop-t l = Stands l.d l.fn.slots l.to l.agenda l.initial.rows l.slots l.rows l.k l.t l.s l.ended

abbrev pub decreases-loop-t : goal.decreases-loop-t
decreases-loop-t l = l.to + 1 - l.t
