-- The program's buffer fits every reading: it has room for the most rows that there can be.
use mathlib.Core.Path.{◌≡◌, refl}
use Prim.Native.Nat.{ℕ}
use mathlib.Core.Bool.{true}
use native.Mathlib.Omega.{arith}
use lib.ListN.{length}
use Rattle.rules.specs.declared.Schedule.{Schedule}
use Rattle.rules.specs.Bytes.{rows_size}
use Rattle.rules.specs.Sound.{sound}
use Rattle.rules.specs.Calls.{set_clock, call}
use Rattle.rules.specs.Printed.{room}
use Rattle.rules.specs.Clauses.{ProgramClause}
use Rattle.rules.proofs.Bound.{few_rows}
use Rattle.rules.proofs.CallLaws.{call_clauses}

room_fits : (s : Schedule) (t : ℕ) → sound s ≡ true → (call s (set_clock t room)).number ≡ 13 → ⊥
room_fits s t e z =
    let size : length room ≡ rows_size = refl in
    let short = (call_clauses.too_short s t room e).0 z in
    omega (arith, few_rows s e t, short.2)

pub program_clause : ProgramClause
program_clause = record { room_fits = room_fits }
