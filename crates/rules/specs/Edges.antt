-- Numbers given, 3 to 14, each on its edge: the last value that is refused beside the first that is not. (1: LineTable, TextTable; 2: ImageTable.)
use Rattle.std.specs.Prelude.{ℕ, zero, suc, ◌+◌, List, [], ◌∷◌, ◌++◌, replicate}
use Rattle.rules.specs.declared.Event.{Event}
use Rattle.rules.specs.Calls.{Call, add_program, deliver, cancel, opt_out, opt_in, set_clock, ask, list, record_of}
use Rattle.rules.specs.Records.{no_entry, event_of}
use Rattle.rules.specs.Marks.{minus, undrawn, Edge}

-- program, controls, start, duration, randomisations, draws
abbrev event : ℕ → ℕ → ℕ → ℕ → ℕ → ℕ → ℕ → ℕ → Event
event program controls start duration rs rd sd dd = event_of 1 program controls 0 start duration rs rd sd dd

abbrev plain : ℕ → ℕ → Event
plain start duration = event 0 1 start duration 0 0 0 0

-- n events with the ids 2 on
abbrev others : ℕ → List Call
others zero = []
others (suc n) = deliver (undrawn (n + 2) 0 1 0 5000 600) ∷ others n

abbrev program : Call
program = add_program 0 0 0

abbrev after : List Call → Call → ℕ → Edge
after calls c n = record { before = program ∷ calls; last = c; number = n }

abbrev clock : ℕ → Call
clock t = set_clock t (replicate 2400 0)

abbrev records : ℕ → List Call → Call → ℕ → Edge
records n calls c k = after (others n ++ calls) c k

-- document 02, #104: an id, and three that agree with it in the lower half, in the upper half, and with the halves exchanged
abbrev twin : ℕ
twin = 0x00000000000000010000000000000002

abbrev other_upper : ℕ
other_upper = 0x00000000000000030000000000000002

abbrev other_lower : ℕ
other_lower = 0x00000000000000010000000000000003

abbrev exchanged : ℕ
exchanged = 0x00000000000000020000000000000001

-- an event under an id, from 5000 to 5601
abbrev named : ℕ → Event
named i = undrawn i 0 1 0 5000 601

-- while the first of these ids is held by an event from 5000 to 5600
abbrev beside : Call → ℕ → Edge
beside c n = after (deliver (undrawn twin 0 1 0 5000 600) ∷ []) c n

unfoldable pub edges : List Edge
edges =
    -- 3, 4, 5: number 7 and 8; the same number again, reserved or not; the ends of what may be used
    after [] (add_program 7 2 0) 0
    ∷ after [] (add_program 8 2 0) 3
    ∷ after [] (add_program 8 3 0) 3
    ∷ after [] (add_program 0 0 0) 4
    ∷ after [] (add_program 0 3 0) 4
    ∷ after [] (add_program 1 2 0) 0
    ∷ after [] (add_program 1 3 0) 5
    ∷ after [] (add_program 1 64 0) 5
    ∷ after [] (add_program 1 65 0) 0
    ∷ after [] (add_program 1 191 0) 0
    ∷ after [] (add_program 1 192 0) 5
    ∷ after [] (add_program 1 255 0) 5
    -- 3 and 6 before 7
    ∷ after [] (deliver (event 8 0 5000 600 0 0 0 0)) 3
    ∷ after [] (deliver (event 7 0 5000 600 0 0 0 0)) 6
    ∷ after [] (deliver (event 0 0 5000 600 0 0 0 0)) 7
    -- 7: start, duration, randomisations
    ∷ after [] (deliver (plain 3599 600)) 7
    ∷ after [] (deliver (plain 3600 600)) 0
    ∷ after [] (deliver (plain 5000 0)) 7
    ∷ after [] (deliver (plain 5000 1)) 0
    ∷ after [] (deliver (event 0 1 5000 600 3600 0 3600 0)) 0
    ∷ after [] (deliver (event 0 1 5000 600 3601 0 0 0)) 7
    ∷ after [] (deliver (event 0 1 5000 600 (minus 3600) 0 (minus 3600) 0)) 0
    ∷ after [] (deliver (event 0 1 5000 600 (minus 3601) 0 0 0)) 7
    ∷ after [] (deliver (event 0 1 5000 600 0 3600 0 3600)) 0
    ∷ after [] (deliver (event 0 1 5000 600 0 3601 0 0)) 7
    ∷ after [] (deliver (event 0 1 5000 4000 0 (minus 3600) 0 (minus 3600))) 0
    ∷ after [] (deliver (event 0 1 5000 4000 0 (minus 3601) 0 0)) 7
    -- 7: draws, and the drawn duration
    ∷ after [] (deliver (event 0 1 5000 600 100 0 100 0)) 0
    ∷ after [] (deliver (event 0 1 5000 600 100 0 101 0)) 7
    ∷ after [] (deliver (event 0 1 5000 600 100 0 (minus 1) 0)) 7
    ∷ after [] (deliver (event 0 1 5000 600 100 0 0 0)) 0
    ∷ after [] (deliver (event 0 1 5000 600 (minus 100) 0 0 0)) 0
    ∷ after [] (deliver (event 0 1 5000 600 (minus 100) 0 1 0)) 7
    ∷ after [] (deliver (event 0 1 5000 600 0 100 0 101)) 7
    ∷ after [] (deliver (event 0 1 5000 600 0 100 0 0)) 0
    ∷ after [] (deliver (event 0 1 5000 600 0 (minus 100) 0 0)) 0
    ∷ after [] (deliver (event 0 1 5000 600 0 (minus 100) 0 1)) 7
    ∷ after [] (deliver (event 0 1 5000 0 0 100 0 1)) 7
    ∷ after [] (deliver (event 0 1 5000 600 0 (minus 600) 0 (minus 599))) 0
    ∷ after [] (deliver (event 0 1 5000 600 0 (minus 600) 0 (minus 600))) 7
    -- 7 before 8, 8 before 9, and no 9 for what is held: the raw end is at 5600, the effective end at 5700
    ∷ after (deliver (plain 5000 600) ∷ []) (deliver (plain 5000 0)) 7
    ∷ after (deliver (plain 5000 600) ∷ []) (deliver (plain 5000 601)) 8
    ∷ after (deliver (event 0 1 5000 600 100 0 50 0) ∷ []) (deliver (event 0 1 5000 600 100 0 51 0)) 8
    ∷ after (deliver (event 0 1 5000 600 0 100 0 100) ∷ clock 5600 ∷ []) (deliver (event 0 1 5000 600 0 100 0 99)) 8
    ∷ after (deliver (event 0 1 5000 600 0 100 0 100) ∷ clock 5699 ∷ []) (deliver (event 0 1 5000 600 0 100 0 100)) 0
    -- 9: the raw end, the effective end
    ∷ after (clock 5599 ∷ []) (deliver (event 0 1 5000 600 0 100 0 100)) 0
    ∷ after (clock 5600 ∷ []) (deliver (event 0 1 5000 600 0 100 0 100)) 9
    ∷ after (clock 5598 ∷ []) (deliver (plain 5000 600)) 0
    ∷ after (clock 5599 ∷ []) (deliver (plain 5000 600)) 9
    ∷ after [] (deliver (event 0 1 3600 1 (minus 3600) 0 (minus 3600) 0)) 9
    ∷ after [] (deliver (event 0 1 3600 2 (minus 3600) 0 (minus 3600) 0)) 0
    -- 10: the 48th event and the 49th; 9 before it, and no 10 for what is held
    ∷ records 47 [] (deliver (plain 5000 600)) 0
    ∷ records 48 [] (deliver (plain 5000 600)) 10
    ∷ records 48 [] (deliver (event 0 1 3600 1 (minus 3600) 0 (minus 3600) 0)) 9
    ∷ records 47 (deliver (plain 5000 600) ∷ []) (deliver (plain 5000 600)) 0
    -- 11: held until the effective end
    ∷ after [] (cancel 1) 11
    ∷ after (deliver (plain 5000 600) ∷ clock 5599 ∷ []) (cancel 1) 0
    ∷ after (deliver (plain 5000 600) ∷ clock 5600 ∷ []) (cancel 1) 11
    -- #102, 11: the same of choices
    ∷ after [] (opt_out 1) 11
    ∷ after [] (opt_in 1) 11
    ∷ after (deliver (plain 5000 600) ∷ clock 5599 ∷ []) (opt_out 1) 0
    ∷ after (deliver (plain 5000 600) ∷ clock 5599 ∷ []) (opt_in 1) 0
    ∷ after (deliver (plain 5000 600) ∷ clock 5600 ∷ []) (opt_out 1) 11
    ∷ after (deliver (plain 5000 600) ∷ clock 5600 ∷ []) (opt_in 1) 11
    -- #104: an id is held by all its bits: others that agree with it in one half are not held, and come in beside it
    ∷ beside (deliver (named twin)) 8
    ∷ beside (deliver (named other_upper)) 0
    ∷ beside (deliver (named other_lower)) 0
    ∷ beside (deliver (named exchanged)) 0
    ∷ beside (cancel twin) 0
    ∷ beside (cancel other_upper) 11
    ∷ beside (cancel other_lower) 11
    ∷ beside (cancel exchanged) 11
    ∷ beside (opt_out twin) 0
    ∷ beside (opt_out other_upper) 11
    ∷ beside (opt_in other_lower) 11
    -- 12: before the clock, the clock, the last reading and the next
    ∷ after (clock 100 ∷ []) (clock 99) 12
    ∷ after (clock 100 ∷ []) (clock 100) 0
    ∷ after [] (clock 9000000000) 0
    ∷ after [] (clock 9000000001) 12
    -- 13: two rows are 50 bytes; two held events are two records
    ∷ after (deliver (plain 5000 600) ∷ []) (set_clock 5600 (replicate 50 0)) 0
    ∷ after (deliver (plain 5000 600) ∷ []) (set_clock 5600 (replicate 49 0)) 13
    ∷ after (deliver (plain 5000 600) ∷ []) (set_clock 9000000001 []) 12
    ∷ records 2 [] (list (replicate 2 (record_of no_entry))) 0
    ∷ records 2 [] (list (replicate 1 (record_of no_entry))) 13
    -- 14: the last control and the next
    ∷ after [] (ask 31) 0
    ∷ after [] (ask 32) 14
    ∷ []
