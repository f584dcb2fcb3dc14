-- Document 02, #105: a line turned to a width, into a buffer from a place on.
use Rattle.std.specs.Prelude.{ℕ, ◌+◌, Bool, cond, List, leb, eqb, length, take, drop, Result}
use Rattle.rules.specs.declared.Refusal.{Refusal}
use Rattle.rules.specs.declared.Reply.{Reply}
use Rattle.rules.specs.Lists.{over_at, each}
use Rattle.rules.specs.Calls.{nothing, count, number_of, value_of}
use Rattle.rules.specs.Converted.{kind_digits, half_digits, Turned, lengthened, shortened, LineOutcome}
use Rattle.frame.specs.declared.Width.{Width}
use Rattle.frame.specs.declared.Width.TheVariants.{Short, Long}

-- the width that lines are turned from
abbrev pub other_than : Width → Width
other_than Short = Long
other_than Long = Short

-- what becomes of a line that is turned to a width
abbrev pub turned_to : Width → List ℕ → Turned
turned_to Short l = shortened l
turned_to Long l = lengthened l

-- an answer, and what a buffer held then
abbrev pub answered : Result Reply Refusal → List ℕ → LineOutcome
answered a bytes = record { number = number_of a; value = value_of a; bytes = bytes }

-- a refused line leaves the buffer as it was
abbrev pub refused_line : ℕ → List ℕ → LineOutcome
refused_line n out = record { number = n; value = nothing; bytes = out }

-- a line over what stands in a buffer from `at` on; 13 if it does not fit
unfoldable pub written_at : List ℕ → ℕ → List ℕ → LineOutcome
written_at l at out = cond (leb (at + length l) (length out)) (record { number = 0; value = count (length l); bytes = over_at at l out }) (refused_line 13 out)

-- A LINE TURNED, from a place on in a buffer
unfoldable pub turned_at : Turned → ℕ → List ℕ → LineOutcome
turned_at t at out = cond (eqb t.number 0) (written_at t.line at out) (refused_line t.number out)

-- whether the digits of an id's upper half are all 0
unfoldable pub upper_zero : List ℕ → Bool
upper_zero l = each (λ c. eqb c 48) (take half_digits (drop kind_digits l))
