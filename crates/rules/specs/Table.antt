-- Bench marks T1 to T12: the table. Beside T5 it has what document 02's #101 says of an event with a randomisation.
use Rattle.std.specs.Prelude.{ℕ, List, [], ◌∷◌}
use Rattle.rules.specs.declared.Event.{Event}
use Rattle.rules.specs.declared.Period.{Period}
use Rattle.rules.specs.Records.{event_of}
use Rattle.rules.specs.Rows.{Row}
use Rattle.rules.specs.Marks.{minus, undrawn, FixedAnswer, Question, Case}

-- the one event: start 5000, duration 600
abbrev one : Event
one = undrawn 1 1 1 0 5000 600

-- start, end, and the moment at which it might begin at the earliest
abbrev period : ℕ → ℕ → ℕ → Period
period s e earliest = record { start = s; end = e; earliest = earliest }

-- the one event with a randomizeStart and a start draw
abbrev drawing : ℕ → ℕ → Event
drawing randomisation draw = event_of 1 1 1 0 5000 600 randomisation 0 draw 0

abbrev row : ℕ → ℕ → ℕ → Row
row t i k = record { time = t; id = i; code = k }

abbrev held : ℕ → ℕ → ℕ → Question
held t c i = record { time = t; control = c; id = i }

-- accepted with code 1
abbrev new : FixedAnswer
new = record { number = 0; code = 1 }

abbrev refused : ℕ → FixedAnswer
refused n = record { number = n; code = 0 }

abbrev case : ℕ → List Event → List FixedAnswer → List Period → List Row → List Question → Case
case r es ans ps rs hs = record { received = r; events = es; answers = ans; periods = ps; rows = rs; holders = hs }

unfoldable pub table : List Case
table =
    -- T1: received a second before its start
    case 4999 (one ∷ []) (new ∷ []) (period 5000 5600 5000 ∷ []) (row 5000 1 2 ∷ row 5600 1 3 ∷ []) (held 5000 0 1 ∷ held 5599 0 1 ∷ [])
    -- T2: received at its start
    ∷ case 5000 (one ∷ []) (new ∷ []) (period 5001 5600 5000 ∷ []) (row 5001 1 2 ∷ row 5600 1 3 ∷ []) (held 5001 0 1 ∷ [])
    -- T3: received two seconds before its end
    ∷ case 5598 (one ∷ []) (new ∷ []) (period 5599 5600 5000 ∷ []) (row 5599 1 2 ∷ row 5600 1 3 ∷ []) (held 5599 0 1 ∷ [])
    -- T4: received a second before its end
    ∷ case 5599 (one ∷ []) (refused 9 ∷ []) [] [] []
    -- T5: the start drawn 300 back
    ∷ case 4000 (drawing (minus 300) (minus 300) ∷ []) (new ∷ []) (period 4700 5300 4700 ∷ [])
    (row 4700 1 2 ∷ row 5300 1 3 ∷ []) (held 4700 0 1 ∷ held 5299 0 1 ∷ [])
    -- #101: the same with a draw of 0, and received after its start; neither moves the earliest start
    ∷ case 4000 (drawing (minus 300) 0 ∷ []) (new ∷ []) (period 5000 5600 4700 ∷ []) (row 5000 1 2 ∷ row 5600 1 3 ∷ []) (held 5000 0 1 ∷ [])
    ∷ case 5100 (drawing (minus 300) (minus 300) ∷ []) (new ∷ []) (period 5101 5300 4700 ∷ []) (row 5101 1 2 ∷ row 5300 1 3 ∷ []) (held 5101 0 1 ∷ [])
    -- #101: a start that may be drawn later: at the earliest it is the start, whatever the draw and the receipt
    ∷ case 4000 (drawing 300 300 ∷ []) (new ∷ []) (period 5300 5900 5000 ∷ []) (row 5300 1 2 ∷ row 5900 1 3 ∷ []) (held 5300 0 1 ∷ [])
    ∷ case 5100 (drawing 300 0 ∷ []) (new ∷ []) (period 5101 5600 5000 ∷ []) (row 5101 1 2 ∷ row 5600 1 3 ∷ []) (held 5101 0 1 ∷ [])
    -- #101: the least start with the greatest randomisation back
    ∷ case 0 (event_of 1 1 1 0 3600 600 (minus 3600) 0 (minus 1) 0 ∷ []) (new ∷ []) (period 3599 4199 0 ∷ [])
    (row 3599 1 2 ∷ row 4199 1 3 ∷ []) (held 3599 0 1 ∷ [])
    -- T6, both cases: a start draw beyond its randomisation, and on the other side of 0
    ∷ case 4000 (drawing (minus 300) (minus 301) ∷ []) (refused 7 ∷ []) [] [] []
    ∷ case 4000 (drawing (minus 300) 1 ∷ []) (refused 7 ∷ []) [] [] []
    -- T7, both cases: a drawn duration of 0, and of 1
    ∷ case 4000 (event_of 1 1 1 0 5000 10 0 (minus 10) 0 (minus 10) ∷ []) (refused 7 ∷ []) [] [] []
    ∷ case 4000 (event_of 1 1 1 0 5000 10 0 (minus 10) 0 (minus 9) ∷ []) (new ∷ []) (period 5000 5001 5000 ∷ [])
    (row 5000 1 2 ∷ row 5001 1 3 ∷ []) (held 5000 0 1 ∷ [])
    -- T8: the next, which is the worse, starts where the first ends
    ∷ case 4000 (undrawn 2 1 1 0 5000 600 ∷ undrawn 1 1 1 0 5600 60 ∷ []) (new ∷ new ∷ []) (period 5000 5600 5000 ∷ period 5600 5660 5600 ∷ [])
    (row 5000 2 2 ∷ row 5600 2 3 ∷ row 5600 1 2 ∷ row 5660 1 3 ∷ []) (held 5599 0 2 ∷ held 5600 0 1 ∷ [])
    -- T9: the same start; the larger id is the better
    ∷ case 4000 (one ∷ undrawn 2 1 1 0 5000 600 ∷ []) (new ∷ new ∷ []) (period 5000 5600 5000 ∷ period 5000 5600 5000 ∷ [])
    (row 5000 1 7 ∷ row 5000 2 2 ∷ row 5600 2 3 ∷ []) (held 5000 0 2 ∷ held 5599 0 2 ∷ [])
    -- T10: best, next, worst, by creation time; ids go the other way
    ∷ case 4000 (undrawn 1 1 1 3 5000 10 ∷ undrawn 2 1 1 2 5005 25 ∷ undrawn 3 1 1 1 5012 8 ∷ []) (new ∷ new ∷ new ∷ [])
    (period 5000 5010 5000 ∷ period 5005 5030 5005 ∷ period 5012 5020 5012 ∷ [])
    (row 5000 1 2 ∷ row 5005 2 7 ∷ row 5010 1 3 ∷ row 5012 3 2 ∷ row 5020 3 3 ∷ []) (held 5009 0 1 ∷ held 5012 0 3 ∷ held 5019 0 3 ∷ [])
    -- T11: two controls, and midway a better event on one of them
    ∷ case 4000 (undrawn 2 1 3 0 5000 600 ∷ undrawn 1 1 1 1 5300 60 ∷ []) (new ∷ new ∷ []) (period 5000 5600 5000 ∷ period 5300 5360 5300 ∷ [])
    (row 5000 2 2 ∷ row 5300 1 2 ∷ row 5360 1 3 ∷ row 5600 2 3 ∷ []) (held 5299 0 2 ∷ held 5300 0 1 ∷ held 5300 1 2 ∷ held 5599 1 2 ∷ [])
    -- T12: primacy 0 with an earlier creation time against primacy 1 with a later one
    ∷ case 4000 (undrawn 1 0 1 0 5000 600 ∷ undrawn 2 1 1 9 5000 600 ∷ []) (new ∷ new ∷ []) []
    (row 5000 2 7 ∷ row 5000 1 2 ∷ row 5600 1 3 ∷ []) (held 5000 0 1 ∷ held 5599 0 1 ∷ [])
    ∷ []
