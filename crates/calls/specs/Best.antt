-- The best default, as the calls and as the definitions have it.
use Rattle.std.specs.Prelude.{ℕ, ◌&&◌, cond, Option, Some, None}
use Rattle.std.proofs.Math.Option as list
use Rattle.rules.specs.declared.Program.{Program}
use Rattle.rules.specs.Records.{has}
use Rattle.rules.specs.Calls.{Ranked}
use Rattle.calls.specs.declared.programs.Best.{Best}

-- a program's number and primacy, if there is one
abbrev pub ranked : Option Best → list.Option Ranked
ranked (Some b) = list.some (record { number = b.number; primacy = b.primacy })
ranked None = list.none

-- the program under a number, if its defaults carry the control
abbrev pub carrying : ℕ → ℕ → Program → list.Option Ranked
carrying c n p = cond (p.added && has p.defaults c) (list.some (record { number = n; primacy = p.primacy })) list.none
