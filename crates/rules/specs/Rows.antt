-- Response rows.
use Rattle.std.specs.Prelude.{◌≡◌, ◌⊎◌, ℕ, ◌<◌, Bool, cond, not, ◌||◌, List, ◌++◌, map, ltb, eqb}
use Rattle.rules.specs.declared.Entry.{Entry}
use Rattle.rules.specs.declared.Choice.{Choice}
use Rattle.rules.specs.declared.Program.{Program}
use Rattle.rules.specs.Lists.{keep}
use Rattle.rules.specs.Records.{id_of}
use Rattle.rules.specs.Holding.{end_of, Holding, holding_at}

-- Response rows, row
pub record Row : Type 0 where
  pub time : ℕ
  pub id : ℕ
  pub code : ℕ

-- Document 02, #102, the code at the end: 3 if the user was in for every second that the event held something, 10 if for none, otherwise 8 if out at the
-- effective end and 9 if in
unfoldable pub end_code : Choice → ℕ
end_code c = cond (not c.was_out) 3 (cond (not c.was_in) 10 (cond c.out 8 9))

-- Response rows, code: what the event gives at moment t, 0 for nothing. `h.held` is what it held a second before, `now` what it carries at t.
-- At its end 3, 8, 9 or 10 if it held anything until then, by the choice that stood after the calls of the clock before; at its start 2 if it holds
-- anything, else 7; later 7 in the moment in which it loses the last control.
unfoldable pub code_at : ℕ → Entry → Holding → ℕ
code_at t h now =
    cond (h.cancelled || ltb (end_of h) t || ltb t h.begins) 0
    (cond (eqb (end_of h) t) (cond (eqb h.held 0) 0 (end_code h.choice))
    (cond (eqb h.begins t) (cond (eqb now.held 0) 7 2)
    (cond (eqb h.held 0 || not (eqb now.held 0)) 0 7)))

abbrev pub row_of : ℕ → (Entry → Holding) → Entry → Row
row_of t now h = record { time = t; id = id_of h.event; code = code_at t h (now h) }

-- the rows of one kind of code, by ascending id, as the entries are
unfoldable pub rows_with : ℕ → (Entry → Holding) → List Entry → (ℕ → Bool) → List Row
rows_with t now hs kind = map (row_of t now) (keep (λ h. kind (code_at t h (now h))) hs)

-- document 02, #102: one kind, whatever the choices were
abbrev pub ending : ℕ → Bool
ending code = eqb code 3 || (eqb code 8 || (eqb code 9 || eqb code 10))

abbrev pub superseded : ℕ → Bool
superseded code = eqb code 7

abbrev pub starting : ℕ → Bool
starting code = eqb code 2

-- Response rows, order within a moment: ends, then superseded ones, then starts, each by ascending id
unfoldable pub rows_from : ℕ → (Entry → Holding) → List Entry → List Row
rows_from t now hs = rows_with t now hs ending ++ (rows_with t now hs superseded ++ rows_with t now hs starting)

-- Response rows, order of the codes: 3, 7, 2, and document 02, #102: 8, 9 and 10 where 3 stands; no row has another
abbrev pub turn : ℕ → ℕ
turn code = cond (ending code) 0 (cond (superseded code) 1 2)

-- Response rows, order: by time, then code in that order, then id
abbrev pub Sooner : Row → Row → Type 0
Sooner a b =
    (a.time < b.time)
    ⊎ ((a.time ≡ b.time) × ((turn a.code < turn b.code) ⊎ ((turn a.code ≡ turn b.code) × (a.id < b.id))))

-- the rows of moment t
unfoldable pub rows_at : List Program → ℕ → List Entry → List Row
rows_at ps t hs = rows_from t (holding_at ps t hs) hs
