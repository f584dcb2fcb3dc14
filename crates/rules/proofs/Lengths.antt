-- A schedule given by value has its places: owning an array says how long it is.
use mathlib.Core.Path.{◌≡◌}
use Prim.Native.Nat.{ℕ}
use mathlib.Core.Bool.{true}
use mathlib.Core.List.{List}
use borrow.Author.Tests.{eq-eqb}
use mir.Val.{Val}
use denote.Array.{Array}
use denote.RattleType.{RattleType}
use lib.ListN.{length}
use Rattle.rules.specs.declared.Schedule.{Schedule}
use Rattle.rules.specs.Records.{most_events}
use Rattle.rules.specs.Sound.{whole}
use Rattle.rules.proofs.Ranges.{Owned}
use Rattle.rules.specs.contracts.Program as program
use Rattle.rules.specs.contracts.Entry as entry
use Rattle.rules.specs.contracts.Schedule as schedule

array_length : (R : RattleType) (n : ℕ) (xs : List R.Denot) (vs : List Val) → Owned (Array R n) xs vs → length xs ≡ n
array_length R n xs vs o = o.1.0.1

pub record Lengths (s : Schedule) : Type 0 where
  pub programs : length s.programs ≡ 8
  pub entries : length s.entries ≡ most_events

module _ (s : Schedule) (vs : List Val) (o : Owned schedule.the_row s vs) where
  pub lengths : Lengths s
  lengths =
      let arrays = o.1.1.1.1 in
      record {
        programs = array_length program.the_row 8 s.programs _ arrays.0;
        entries = array_length entry.the_row most_events s.entries _ arrays.1.0;
      }

  pub whole_always : whole s ≡ true
  unfolding whole
  whole_always = rw (eq-eqb (length s.programs) 8 lengths.programs, eq-eqb (length s.entries) most_events lengths.entries)
