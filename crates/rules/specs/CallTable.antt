-- What calls answer: number and value of each answer, codes, holders, defaults, rows, listings, cancellations, choices. Each script starts from the fresh schedule.
use Rattle.std.specs.Prelude.{◌≡◌, ℕ, ◌/◌, ◌%◌, Bool, true, false, ◌&&◌, List, [], ◌∷◌, ◌++◌, map, replicate, Result, Ok, Err}
use Rattle.rules.specs.declared.Choice.{Choice}
use Rattle.rules.specs.declared.Event.{Event}
use Rattle.rules.specs.declared.Record.{Record}
use Rattle.rules.specs.declared.Primacy.{Primacy}
use Rattle.rules.specs.declared.Primacy.TheVariants.{Usable, Reserved}
use Rattle.rules.specs.declared.Refusal.{Refusal}
use Rattle.rules.specs.declared.Refusal.TheVariants.{NoFrame, BrokenRule, NoSuchProgram, AddedBefore, ReservedPrimacy, NotAdded, Malformed, OtherFields, Late, Full, NotHeld, ClockOutOfRange, NoRoom, NoSuchControl, UpperHalf}
use Rattle.rules.specs.declared.Reply.{Reply}
use Rattle.rules.specs.declared.Reply.TheVariants.{Code, Count, Holder, Default, Nobody}
use Rattle.rules.specs.declared.Response.{Response}
use Rattle.rules.specs.declared.Response.TheVariants.{Silent, Received, Started, Completed, OptedOut, OptedIn, Cancelled, Superseded, PartlyOut, PartlyIn, NotTaken}
use Rattle.rules.specs.Records.{primacy_is, fresh, pad, id_from, event_of}
use Rattle.rules.specs.Calls.{add_program, deliver, cancel, opt_out, opt_in, set_clock, ask, list, nothing, code, count, holder, default, nobody, refusal_number, response_number, number_of, value_of, counted}
use Rattle.rules.specs.Script.{value_numbers, Step, scripts_hold, ◌answers◌, ◌refused◌}
use Rattle.rules.specs.Marks.{minus, undrawn, choice, unheld, stayed_in, same, replies}

-- a row's bytes, of a time below 65,536 and an id by the first and the last byte of its upper half and the last of its lower half, all others zero
abbrev row_of : ℕ → ℕ → ℕ → ℕ → ℕ → List ℕ
row_of t top high low k =
    0 ∷ 0 ∷ 0 ∷ 0 ∷ 0 ∷ 0 ∷ t / 256 ∷ t % 256 ∷ top ∷ 0 ∷ 0 ∷ 0 ∷ 0 ∷ 0 ∷ 0 ∷ high ∷ 0 ∷ 0 ∷ 0 ∷ 0 ∷ 0 ∷ 0 ∷ 0 ∷ low ∷ k ∷ []

-- of an id below 256
abbrev row : ℕ → ℕ → ℕ → List ℕ
row t i k = row_of t 0 0 i k

-- a reading into a buffer of `room` bytes, all 77: how many rows, their bytes, and how many bytes stay as they were
abbrev reads : ℕ → ℕ → ℕ → List ℕ → ℕ → Step
reads t room n rows rest = record { call = set_clock t (replicate room 77); number = 0; value = count n; bytes = rows ++ replicate rest 77; records = [] }

-- a listed event: its effective start, held mask, cancelled mark, choice, and the moment at which it might begin at the earliest
abbrev listed_as : Event → ℕ → ℕ → Bool → Choice → ℕ → Record
listed_as e begins mask gone c earliest = record { entry = record { event = e; begins = begins; held = mask; cancelled = gone; choice = c }; earliest = earliest }

-- a place of a lent list before it is written to
abbrev place : Record
place = listed_as (undrawn 99 9 99 99 99 99) 99 99 true (choice 1 1 1) 99

-- a listing into `room` places: how many records, and how many places stay as they were
abbrev listing : ℕ → ℕ → List Record → ℕ → Step
listing room n rs rest = record { call = list (replicate room place); number = 0; value = count n; bytes = []; records = rs ++ replicate rest place }

-- an event of two controls, and one that is better on the first of them
abbrev wide : Event
wide = undrawn 2 1 3 0 5000 100

abbrev narrow : Event
narrow = undrawn 1 0 1 0 5050 100

-- codes: 0 for a program, 1 and then 0 for an event, 6 and then 0 for its cancellation; cancelled or not, it stays held until its end
abbrev codes : List Step
codes =
    (add_program 0 0 0 answers code 0)
    ∷ (add_program 1 1 4 answers code 0)
    ∷ (deliver wide answers code 1)
    ∷ (deliver wide answers code 0)
    ∷ (cancel 2 answers code 6)
    ∷ (cancel 2 answers code 0)
    ∷ (deliver wide answers code 0)
    ∷ (cancel 1 refused 11)
    ∷ (deliver narrow answers code 1)
    ∷ reads 5000 0 0 [] 0
    ∷ (cancel 2 answers code 0)
    ∷ reads 5050 26 1 (row 5050 1 2) 1
    ∷ listing 3 2 (listed_as narrow 5050 1 false stayed_in 5050 ∷ listed_as wide 5000 0 true unheld 5000 ∷ []) 1
    ∷ (cancel 1 answers code 6)
    ∷ listing 2 2 (listed_as narrow 5050 0 true stayed_in 5050 ∷ listed_as wide 5000 0 true unheld 5000 ∷ []) 0
    ∷ (list (place ∷ []) refused 13)
    ∷ reads 5100 1 0 [] 1
    ∷ listing 1 1 (listed_as narrow 5050 0 true stayed_in 5050 ∷ []) 0
    ∷ (cancel 2 refused 11)
    ∷ []

-- holders: one of two controls is lost to a better event and not got back; nobody holds what nobody carries
abbrev holders : List Step
holders =
    (add_program 0 0 0 answers code 0)
    ∷ (add_program 1 1 5 answers code 0)
    ∷ (deliver narrow answers code 1)
    ∷ (deliver wide answers code 1)
    ∷ (ask 0 answers default 1)
    ∷ (ask 1 answers nobody)
    ∷ (ask 2 answers default 1)
    ∷ reads 5049 25 1 (row 5000 2 2) 0
    ∷ (ask 0 answers holder 2)
    ∷ (ask 1 answers holder 2)
    ∷ listing 4 2 (listed_as narrow 5050 0 false unheld 5050 ∷ listed_as wide 5000 3 false stayed_in 5000 ∷ []) 2
    ∷ reads 5050 28 1 (row 5050 1 2) 3
    ∷ (ask 0 answers holder 1)
    ∷ (ask 1 answers holder 2)
    ∷ listing 2 2 (listed_as narrow 5050 1 false stayed_in 5050 ∷ listed_as wide 5000 2 false stayed_in 5000 ∷ []) 0
    ∷ (set_clock 5150 (replicate 49 77) refused 13)
    ∷ reads 5150 50 2 (row 5100 2 3 ++ row 5150 1 3) 0
    ∷ (ask 0 answers default 1)
    ∷ listing 1 0 [] 1
    ∷ []

-- defaults of three programs: the lower primacy, of equal ones the smaller number, of those that carry the control
abbrev defaults_of : List Step
defaults_of =
    (ask 0 answers nobody)
    ∷ (add_program 1 65 0b10111 answers code 0)
    ∷ (ask 0 answers default 1)
    ∷ (add_program 5 2 0b01011 answers code 0)
    ∷ (ask 0 answers default 5)
    ∷ (add_program 3 2 0b00001 answers code 0)
    ∷ (ask 0 answers default 3)
    ∷ (add_program 7 191 0b11111 answers code 0)
    ∷ (ask 0 answers default 3)
    ∷ (ask 1 answers default 5)
    ∷ (ask 2 answers default 1)
    ∷ (ask 3 answers default 5)
    ∷ (ask 4 answers default 1)
    ∷ (ask 5 answers nobody)
    ∷ (add_program 0 2 0b00010 answers code 0)
    ∷ (ask 1 answers default 0)
    ∷ []

-- one moment, 5100, with two rows of each code, ids against the order of delivery: 10 and 30 end, 20 and 40 lose their only control to 50 and 5, which start
abbrev moment : List Step
moment =
    (add_program 0 0 0 answers code 0)
    ∷ (add_program 1 1 0 answers code 0)
    ∷ (deliver (undrawn 30 1 1 0 5000 100) answers code 1)
    ∷ (deliver (undrawn 10 1 2 0 5000 100) answers code 1)
    ∷ (deliver (undrawn 40 1 4 0 5000 200) answers code 1)
    ∷ (deliver (undrawn 20 1 8 0 5000 200) answers code 1)
    ∷ (deliver (undrawn 50 0 4 0 5100 200) answers code 1)
    ∷ (deliver (undrawn 5 0 8 0 5100 200) answers code 1)
    ∷ reads 5099 100 4 (row 5000 10 2 ++ (row 5000 20 2 ++ (row 5000 30 2 ++ row 5000 40 2))) 0
    ∷ reads 5100 151 6 (row 5100 10 3 ++ (row 5100 30 3 ++ (row 5100 20 7 ++ (row 5100 40 7 ++ (row 5100 5 2 ++ row 5100 50 2))))) 1
    ∷ reads 9000000000 50 2 (row 5300 5 3 ++ row 5300 50 3) 0
    ∷ []

-- a cancellation at 5000: the event holds that second, gives its 2 and nothing after; a worse event is kept out that second for good, one that starts a second later is not
abbrev cancelled_one : List Step
cancelled_one =
    (add_program 0 0 1 answers code 0)
    ∷ (deliver (undrawn 9 0 1 0 5000 100) answers code 1)
    ∷ (deliver (undrawn 8 0 1 0 5000 100) answers code 1)
    ∷ (deliver (undrawn 7 0 1 0 5001 100) answers code 1)
    ∷ reads 5000 50 2 (row 5000 8 7 ++ row 5000 9 2) 0
    ∷ (ask 0 answers holder 9)
    ∷ (cancel 9 answers code 6)
    ∷ (ask 0 answers default 0)
    ∷ reads 5001 25 1 (row 5001 7 2) 0
    ∷ (ask 0 answers holder 7)
    ∷ listing 3 3 (listed_as (undrawn 7 0 1 0 5001 100) 5001 1 false stayed_in 5001 ∷ listed_as (undrawn 8 0 1 0 5000 100) 5000 0 false unheld 5000 ∷ listed_as (undrawn 9 0 1 0 5000 100) 5000 0 true stayed_in 5000 ∷ []) 0
    ∷ reads 5200 25 1 (row 5101 7 3) 0
    ∷ []

-- an event first accepted after its start begins at the next second; cancelled, it is listed as it was but for its mask and its mark
abbrev after_start : List Step
after_start =
    (add_program 0 0 0 answers code 0)
    ∷ reads 5050 0 0 [] 0
    ∷ (deliver (undrawn 3 0 1 0 5000 100) answers code 1)
    ∷ listing 1 1 (listed_as (undrawn 3 0 1 0 5000 100) 5051 0 false unheld 5000 ∷ []) 0
    ∷ (ask 0 answers nobody)
    ∷ reads 5051 25 1 (row 5051 3 2) 0
    ∷ (ask 0 answers holder 3)
    ∷ (cancel 3 answers code 6)
    ∷ listing 1 1 (listed_as (undrawn 3 0 1 0 5000 100) 5051 0 true stayed_in 5000 ∷ []) 0
    ∷ reads 5100 0 0 [] 0
    ∷ []

-- an event on a control of its own, from 5000 for 300 seconds, with a randomizeStart and a start draw
abbrev randomised : ℕ → ℕ → ℕ → ℕ → Event
randomised i controls randomisation draw = event_of i 0 controls 0 5000 300 randomisation 0 draw 0

abbrev back : Event
back = randomised 1 1 (minus 200) (minus 50)

abbrev later : Event
later = randomised 2 2 200 150

abbrev undelayed : Event
undelayed = randomised 3 4 (minus 60) 0

-- document 02, #101: the earliest start is listed beside each event, and neither draw, receipt, start, cancellation nor time moves it
abbrev at_the_earliest : List Step
at_the_earliest =
    (add_program 0 0 0 answers code 0)
    ∷ (deliver later answers code 1)
    ∷ (deliver back answers code 1)
    ∷ listing 3 2 (listed_as back 4950 0 false unheld 4800 ∷ listed_as later 5150 0 false unheld 5000 ∷ []) 1
    ∷ reads 5160 50 2 (row 4950 1 2 ++ row 5150 2 2) 0
    ∷ (deliver undelayed answers code 1)
    ∷ (cancel 1 answers code 6)
    ∷ listing 3 3 (listed_as back 4950 0 true stayed_in 4800 ∷ listed_as later 5150 2 false stayed_in 5000 ∷ listed_as undelayed 5161 0 false unheld 4940 ∷ []) 0
    ∷ reads 5250 25 1 (row 5161 3 2) 0
    ∷ listing 2 2 (listed_as later 5150 2 false stayed_in 5000 ∷ listed_as undelayed 5161 4 false stayed_in 4940 ∷ []) 0
    ∷ []

-- document 02, #102: what a choice changes in a listing, and when; the held masks stay, and so does the other event. Out before the start, from the second
-- after 5049, and back in; on the other event a choice that was taken back before a second passed leaves no mark
abbrev choosing : List Step
choosing =
    (add_program 0 0 0 answers code 0)
    ∷ (add_program 1 1 1 answers code 0)
    ∷ (opt_out 2 refused 11)
    ∷ (deliver wide answers code 1)
    ∷ (opt_in 2 answers code 0)
    ∷ (opt_out 2 answers code 4)
    ∷ (opt_out 2 answers code 0)
    ∷ (deliver wide answers code 0)
    ∷ listing 1 1 (listed_as wide 5000 0 false (choice 1 0 0) 5000 ∷ []) 0
    ∷ reads 4999 0 0 [] 0
    ∷ (opt_in 2 answers code 5)
    ∷ reads 5000 25 1 (row 5000 2 2) 0
    ∷ (opt_out 2 answers code 4)
    ∷ listing 1 1 (listed_as wide 5000 3 false (choice 1 1 0) 5000 ∷ []) 0
    ∷ (ask 0 answers default 1)
    ∷ (ask 1 answers nobody)
    ∷ reads 5001 0 0 [] 0
    ∷ listing 1 1 (listed_as wide 5000 3 false (choice 1 1 1) 5000 ∷ []) 0
    ∷ (deliver narrow answers code 1)
    ∷ reads 5050 25 1 (row 5050 1 2) 0
    ∷ (opt_out 1 answers code 4)
    ∷ (opt_in 1 answers code 5)
    ∷ (ask 0 answers holder 1)
    ∷ (ask 1 answers nobody)
    ∷ (opt_in 2 answers code 5)
    ∷ (ask 1 answers holder 2)
    ∷ reads 5051 0 0 [] 0
    ∷ listing 2 2 (listed_as narrow 5050 1 false stayed_in 5050 ∷ listed_as wide 5000 2 false (choice 0 1 1) 5000 ∷ []) 0
    ∷ (cancel 1 answers code 6)
    ∷ (opt_out 1 answers code 4)
    ∷ reads 5150 25 1 (row 5100 2 9) 0
    ∷ listing 0 0 [] 0
    ∷ []

-- document 02, #104: ids that agree with another in one half, in ascending order: an upper half of 0, two that share the upper half 1, the halves of the first of
-- these exchanged, and its lower half under the top bit
abbrev low : ℕ
low = 0x00000000000000000000000000000002

abbrev first : ℕ
first = 0x00000000000000010000000000000002

abbrev second : ℕ
second = 0x00000000000000010000000000000003

abbrev swapped : ℕ
swapped = 0x00000000000000020000000000000001

abbrev top : ℕ
top = 0x80000000000000000000000000000002

-- events that differ in their ids alone, on control 0 from 5000 to 5100
abbrev like : ℕ → Event
like i = undrawn i 0 1 0 5000 100

-- listed with a held mask, a mark and a choice
abbrev like_listed : ℕ → ℕ → Bool → Choice → Record
like_listed i held gone c = listed_as (like i) 5000 held gone c 5000

-- document 02, #104: ties and order go by all 128 bits, unsigned, and a cancellation or a choice is of one event alone
abbrev wide_ids : List Step
wide_ids =
    (add_program 0 0 0 answers code 0)
    ∷ (deliver (like swapped) answers code 1)
    ∷ (deliver (like top) answers code 1)
    ∷ (deliver (like low) answers code 1)
    ∷ (deliver (like second) answers code 1)
    ∷ (deliver (like first) answers code 1)
    ∷ (deliver (like first) answers code 0)
    ∷ (cancel first answers code 6)
    ∷ (cancel first answers code 0)
    ∷ (opt_out second answers code 4)
    ∷ listing 5 5 (
    like_listed low 0 false unheld ∷ like_listed first 0 true unheld ∷ like_listed second 0 false (choice 1 0 0) ∷ like_listed swapped 0 false unheld ∷ like_listed top 0 false unheld ∷ []
    ) 0
    ∷ reads 5000 100 4 (row_of 5000 0 0 2 7 ++ (row_of 5000 0 1 3 7 ++ (row_of 5000 0 2 1 7 ++ row_of 5000 0x80 0 2 2))) 0
    ∷ (ask 0 answers holder top)
    ∷ []

-- the same events two at a time: of two that agree in a half the one with the larger other half holds the control, and the halves exchanged the one with the larger upper half
abbrev contest : ℕ → ℕ → List ℕ → List Step
contest a b rows =
    (add_program 0 0 0 answers code 0)
    ∷ (deliver (like a) answers code 1)
    ∷ (deliver (like b) answers code 1)
    ∷ reads 5000 50 2 rows 0
    ∷ (ask 0 answers holder a)
    ∷ []

unfoldable pub call_table : List (List Step)
call_table =
    codes ∷ holders ∷ defaults_of ∷ moment ∷ cancelled_one ∷ after_start ∷ at_the_earliest ∷ choosing ∷ wide_ids
    ∷ contest first low (row_of 5000 0 0 2 7 ++ row_of 5000 0 1 2 2)
    ∷ contest second first (row_of 5000 0 1 2 7 ++ row_of 5000 0 1 3 2)
    ∷ contest swapped second (row_of 5000 0 1 3 7 ++ row_of 5000 0 2 1 2)
    ∷ contest top swapped (row_of 5000 0 2 1 7 ++ row_of 5000 0x80 0 2 2)
    ∷ []

-- the number and the value of each answer
abbrev answer_numbers : Result Reply Refusal → List ℕ
answer_numbers a = number_of a ∷ value_numbers (value_of a)

-- each refusal by ascending number, and each response
abbrev refusals : List Refusal
refusals =
    NoFrame ∷ BrokenRule ∷ NoSuchProgram ∷ AddedBefore ∷ ReservedPrimacy ∷ NotAdded ∷ Malformed ∷ OtherFields ∷ Late ∷ Full ∷ NotHeld ∷ ClockOutOfRange ∷ NoRoom
    ∷ NoSuchControl ∷ UpperHalf ∷ []

abbrev responses : List Response
responses = Silent ∷ Received ∷ Started ∷ Completed ∷ OptedOut ∷ OptedIn ∷ Cancelled ∷ Superseded ∷ PartlyOut ∷ PartlyIn ∷ NotTaken ∷ []

-- 1 for a primacy that may be used
abbrev usable_number : Primacy → ℕ
usable_number Usable = 1
usable_number Reserved = 0

-- with the count of each value, and the ends of what primacies may be used
unfoldable pub answers_hold : Bool
answers_hold =
    same (answer_numbers (Err NoRoom)) (13 ∷ value_numbers nothing)
    && same (answer_numbers (Ok (Code 6))) (0 ∷ value_numbers (code 6))
    && same (answer_numbers (Ok (Count 96))) (0 ∷ value_numbers (count 96))
    && same (answer_numbers (Ok (Holder (id_from 9)))) (0 ∷ value_numbers (holder 9))
    && same (answer_numbers (Ok (Holder (record { high = 1; low = 2 })))) (0 ∷ value_numbers (holder first))
    && same (answer_numbers (Ok (Default 7))) (0 ∷ value_numbers (default 7))
    && same (answer_numbers (Ok Nobody)) (0 ∷ value_numbers nobody)
    && same (map refusal_number refusals) (1 ∷ 2 ∷ 3 ∷ 4 ∷ 5 ∷ 6 ∷ 7 ∷ 8 ∷ 9 ∷ 10 ∷ 11 ∷ 12 ∷ 13 ∷ 14 ∷ 15 ∷ [])
    && same (map response_number responses) (0 ∷ 1 ∷ 2 ∷ 3 ∷ 4 ∷ 5 ∷ 6 ∷ 7 ∷ 8 ∷ 9 ∷ 10 ∷ [])
    && same (map counted (nothing ∷ code 6 ∷ count 96 ∷ holder 9 ∷ default 7 ∷ nobody ∷ [])) (0 ∷ 0 ∷ 96 ∷ 0 ∷ 0 ∷ 0 ∷ [])
    && same (map (λ p. usable_number (primacy_is p)) (2 ∷ 3 ∷ 64 ∷ 65 ∷ 191 ∷ 192 ∷ [])) (1 ∷ 0 ∷ 0 ∷ 1 ∷ 1 ∷ 0 ∷ [])

pub record CallTables : Type 0 where
  -- each script, from the fresh schedule
  pub scripts : scripts_hold (replies (pad fresh)) call_table ≡ true
  pub numbers : answers_hold ≡ true
