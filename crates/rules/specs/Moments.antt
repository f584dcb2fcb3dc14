-- From one moment to the next.
use Rattle.std.specs.Prelude.{ℕ, zero, suc, ◌-◌, Bool, List, [], ◌++◌, map, ltb}
use Rattle.rules.specs.declared.Entry.{Entry}
use Rattle.rules.specs.Lists.{keep}
use Rattle.rules.specs.Records.{State}
use Rattle.rules.specs.Holding.{end_of, Holding, holding_at, with_holding}
use Rattle.rules.specs.Rows.{Row, rows_at}

-- Effective period, held: whether an accepted event still is after moment t
abbrev pub lasts : ℕ → Entry → Bool
lasts t h = ltb t (end_of h)

-- the entries after moment t
unfoldable pub entries_from : ℕ → (Entry → Holding) → List Entry → List Entry
entries_from t now hs = map (λ h. with_holding h (now h)) (keep (lasts t) hs)

-- a state, and the rows of the moments passed on the way to it
pub record Moved : Type 0 where
  pub state : State
  pub rows : List Row

-- Calls, set the clock, by one second: who holds what, the rows of that moment, and what has ended goes
unfoldable pub second : State → Moved
second s =
    let t = suc s.clock in
    record {
      state = record { clock = t; programs = s.programs; entries = entries_from t (holding_at s.programs t s.entries) s.entries };
      rows = rows_at s.programs t s.entries;
    }

-- n seconds on
unfoldable pub advance : ℕ → State → Moved
advance zero s = record { state = s; rows = [] }
advance (suc n) s =
    let o = second s in
    let m = advance n o.state in
    record { state = m.state; rows = o.rows ++ m.rows }

-- Calls, set the clock: all moments after the old reading, up to the new one
abbrev pub passed : State → ℕ → Moved
passed s reading = advance (reading - s.clock) s
