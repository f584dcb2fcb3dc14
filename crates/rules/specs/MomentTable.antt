-- From an accepted image the rules run on: the seconds after a state, one by one, also after one that no run of calls leaves.
use Rattle.std.specs.Prelude.{ℕ, Bool, true, false, ◌&&◌, List, [], ◌∷◌, ◌++◌, eqb, replicate}
use Rattle.rules.specs.declared.Choice.{Choice}
use Rattle.rules.specs.declared.Entry.{Entry}
use Rattle.rules.specs.declared.Program.{Program}
use Rattle.rules.specs.Records.{State, no_program}
use Rattle.rules.specs.Rows.{Row}
use Rattle.rules.specs.Moments.{passed}
use Rattle.rules.specs.Script.{entries_numbers}
use Rattle.rules.specs.ScheduleTable.{row_numbers, event, entry_as, row}
use Rattle.rules.specs.Marks.{choice, unheld, stayed_in, same}

-- a clock and what is held then; a reading; the rows up to it, and what is held after it
pub record MomentCase : Type 0 where
  pub clock : ℕ
  pub before : List Entry
  pub reading : ℕ
  pub rows : List Row
  pub after : List Entry

-- program 0 has primacy 1, program 7 primacy 0
abbrev programs : List Program
programs = record { added = true; primacy = 1; defaults = 0 } ∷ (replicate 6 no_program ++ (record { added = true; primacy = 0; defaults = 0 } ∷ []))

abbrev state_for : MomentCase → State
state_for c = record { clock = c.clock; programs = programs; entries = c.before }

unfoldable pub moments_hold : List MomentCase → Bool
moments_hold [] = true
moments_hold (c ∷ cs) =
    let m = passed (state_for c) c.reading in
    eqb m.state.clock c.reading
    && same (row_numbers m.rows) (row_numbers c.rows)
    && same (entries_numbers m.state.entries) (entries_numbers c.after)
    && moments_hold cs

abbrev case : ℕ → List Entry → ℕ → List Row → List Entry → MomentCase
case t hs u rs ks = record { clock = t; before = hs; reading = u; rows = rs; after = ks }

-- with this id, on control 0: 2 to 6 with the effective start and the mask given
abbrev lesser : ℕ → ℕ → ℕ → Choice → Entry
lesser i begins mask c = entry_as (event i 0 1 2 4) begins mask false c

-- the better, 2 to 5
abbrev greater : ℕ → ℕ → Choice → Entry
greater begins mask c = entry_as (event 9 7 1 2 3) begins mask false c

unfoldable pub moment_table : List MomentCase
moment_table =
    -- the same reading; every second up to the last: a start and an end in one reading
    case 3 (lesser 1 2 1 stayed_in ∷ []) 3 [] (lesser 1 2 1 stayed_in ∷ [])
    ∷ case 0 (lesser 1 2 0 unheld ∷ []) 1 [] (lesser 1 2 0 unheld ∷ [])
    ∷ case 0 (lesser 1 2 0 unheld ∷ []) 2 (row 2 1 2 ∷ []) (lesser 1 2 1 stayed_in ∷ [])
    ∷ case 0 (lesser 1 2 0 unheld ∷ []) 5 (row 2 1 2 ∷ []) (lesser 1 2 1 stayed_in ∷ [])
    ∷ case 0 (lesser 1 2 0 unheld ∷ []) 7 (row 2 1 2 ∷ row 6 1 3 ∷ []) []
    -- what is held at the clock can be lost at the next second, and then gives 7
    ∷ case 3 (lesser 1 2 1 stayed_in ∷ greater 4 0 unheld ∷ []) 4 (row 4 1 7 ∷ row 4 9 2 ∷ []) (lesser 1 2 0 stayed_in ∷ greater 4 1 stayed_in ∷ [])
    -- a started event gains nothing: not the better one that holds nothing, and not the other when that one ends
    ∷ case 3 (lesser 1 2 1 stayed_in ∷ greater 2 0 unheld ∷ []) 5 [] (lesser 1 2 1 stayed_in ∷ [])
    ∷ case 3 (lesser 1 2 0 unheld ∷ greater 2 1 stayed_in ∷ []) 6 (row 5 9 3 ∷ []) []
    -- #102: a second in which nothing begins or ends sets a mark by the choice; the choice that stood at the clock counts for all seconds of a reading
    ∷ case 3 (lesser 1 2 1 (choice 1 1 0) ∷ []) 3 [] (lesser 1 2 1 (choice 1 1 0) ∷ [])
    ∷ case 3 (lesser 1 2 1 (choice 1 1 0) ∷ []) 4 [] (lesser 1 2 1 (choice 1 1 1) ∷ [])
    ∷ case 3 (lesser 1 2 1 (choice 1 1 0) ∷ []) 6 (row 6 1 8 ∷ []) []
    ∷ case 5 (lesser 1 2 1 (choice 1 1 0) ∷ []) 6 (row 6 1 3 ∷ []) []
    ∷ case 4 (lesser 1 2 1 (choice 0 0 1) ∷ []) 5 [] (lesser 1 2 1 (choice 0 1 1) ∷ [])
    ∷ case 4 (lesser 1 2 1 (choice 0 0 1) ∷ []) 6 (row 6 1 9 ∷ []) []
    ∷ case 5 (lesser 1 2 1 (choice 0 0 1) ∷ []) 6 (row 6 1 10 ∷ []) []
    ∷ case 0 (lesser 1 2 0 (choice 1 0 0) ∷ []) 2 (row 2 1 2 ∷ []) (lesser 1 2 1 (choice 1 0 1) ∷ [])
    -- what holds nothing gets no mark, whatever it has; the second in which a better one takes its last control does not count
    ∷ case 3 (lesser 1 2 0 (choice 1 0 0) ∷ []) 5 [] (lesser 1 2 0 (choice 1 0 0) ∷ [])
    ∷ case 3 (lesser 1 2 0 (choice 1 1 0) ∷ []) 5 [] (lesser 1 2 0 (choice 1 1 0) ∷ [])
    ∷ case 3 (lesser 1 2 1 (choice 1 1 0) ∷ greater 4 0 unheld ∷ []) 4 (row 4 1 7 ∷ row 4 9 2 ∷ []) (lesser 1 2 0 (choice 1 1 0) ∷ greater 4 1 stayed_in ∷ [])
    -- an effective start beyond the next second; a cancelled event neither starts nor ends nor keeps another out
    ∷ case 3 (lesser 1 5 0 unheld ∷ []) 6 (row 5 1 2 ∷ row 6 1 3 ∷ []) []
    ∷ case 3 (lesser 1 4 0 unheld ∷ entry_as (event 9 7 1 2 3) 4 0 true unheld ∷ []) 6 (row 4 1 2 ∷ row 6 1 3 ∷ []) []
    ∷ []
