-- What is owned fits: owning a number says that it fits its width, and owning an array owns each element.
use mathlib.Core.Logic.{inl, inr}
use Prim.Native.Nat.{ℕ}
use mathlib.Core.List.{List, [], ◌∷◌}
use borrow.Author.Rules.{rules}
use mir.Val.{Val}
use denote.Array.{each, Array}
use denote.Shadow.{shadow}
use denote.RattleType.{RattleType}
use Rattle.rules.specs.declared.Program.{Program}
use Rattle.rules.specs.declared.Entry.{Entry}
use Rattle.rules.specs.declared.Schedule.{Schedule}
use Rattle.rules.specs.Lists.{All}
use Rattle.rules.specs.Records.{most_programs, most_events}
use Rattle.rules.proofs.Entries.{FitsEntry}
use Rattle.rules.proofs.Images.{FitsProgram, FitsSchedule}
use Rattle.rules.specs.contracts.Program as program
use Rattle.rules.specs.contracts.Entry as entry
use Rattle.rules.specs.contracts.Schedule as schedule

-- what owning a value of a type says of it
abbrev pub Owned : (R : RattleType) → R.Denot → List Val → Type 0
Owned R x vs = shadow (R.own_val x vs)

module _ (R : RattleType) (P : R.Denot → Type 0) (one : (x : R.Denot) (vs : List Val) → Owned R x vs → P x) where
  each_owned : (xs : List R.Denot) (us : List Val) → shadow (each R.Denot R.own_val xs us) → All P xs
  each_owned [] us s y i = absurd i
  each_owned (x ∷ xs) [] s y i = absurd s
  each_owned (x ∷ xs) (u ∷ us) s y (inl e) = rw e (one x (u ∷ []) s.0)
  each_owned (x ∷ xs) (u ∷ us) s y (inr i) = each_owned xs us s.1 y i

  pub array_owned : (n : ℕ) (xs : List R.Denot) (vs : List Val) → Owned (Array R n) xs vs → All P xs
  array_owned n xs vs s = each_owned xs s.0 s.1.1

pub program_fits : (p : Program) (vs : List Val) → Owned program.the_row p vs → FitsProgram p
program_fits p vs s = search rules

pub entry_fits : (h : Entry) (vs : List Val) → Owned entry.the_row h vs → FitsEntry h
entry_fits h vs s = search rules

pub schedule_fits : (s : Schedule) (vs : List Val) → Owned schedule.the_row s vs → FitsSchedule s
schedule_fits s vs o =
    let arrays = o.1.1.1.1 in
    record {
      programs = array_owned program.the_row FitsProgram program_fits most_programs s.programs _ arrays.0;
      entries = array_owned entry.the_row FitsEntry entry_fits most_events s.entries _ arrays.1.0;
    }
