-- Images: every rule kept by one and broken by one; lengths and marks; the bytes of an image, each where it stands.
use Rattle.std.specs.Prelude.{◌≡◌, ℕ, zero, suc, ◌+◌, ◌-◌, Bool, true, false, cond, not, ◌&&◌, ◌||◌, List, [], ◌∷◌, ◌++◌, eqb, length, get_or, replicate}
use Rattle.rules.specs.declared.Choice.{Choice}
use Rattle.rules.specs.declared.Event.{Event}
use Rattle.rules.specs.declared.Entry.{Entry}
use Rattle.rules.specs.declared.Program.{Program}
use Rattle.rules.specs.declared.Schedule.{Schedule}
use Rattle.rules.specs.Lists.{over_at}
use Rattle.rules.specs.Records.{most_events, most_programs, last_program, most_controls, last_control, most_rows, half_size, id_size, half_limit, id_limit, no_program, no_entry, event_of}
use Rattle.rules.specs.Rows.{Row}
use Rattle.rules.specs.Bytes.{row_size, rows_size, row_bytes, event_size, entry_size, mark_at, choice_at, record_size}
use Rattle.rules.specs.Sound.{sound}
use Rattle.rules.specs.Calls.{Call, add_program, deliver, cancel, opt_out, opt_in, set_clock, ask, list, call}
use Rattle.rules.specs.Image.{program_size, programs_at, entries_at, image_size, image, loaded, formed, imaged}
use Rattle.rules.specs.Frames.{event_frame, id_frame, clock_frame, program_frame, ask_frame}
use Rattle.rules.specs.Script.{program_numbers, entry_numbers}
use Rattle.rules.specs.Marks.{minus, choice, unheld, stayed_in, same}

-- whether two tests come out the same
abbrev agree : Bool → Bool → Bool
agree a b = cond a b (not b)

-- THE RULES

-- a schedule by value, and whether it keeps every rule
pub record RuleCase : Type 0 where
  pub schedule : Schedule
  pub kept : Bool

unfoldable pub rules_hold : List RuleCase → Bool
rules_hold [] = true
rules_hold (c ∷ cs) = agree (sound c.schedule) c.kept && rules_hold cs

abbrev entry_as : Event → ℕ → ℕ → Bool → Choice → Entry
entry_as e begins held gone c = record { event = e; begins = begins; held = held; cancelled = gone; choice = c }

abbrev program : Bool → ℕ → ℕ → Program
program added primacy defaults = record { added = added; primacy = primacy; defaults = defaults }

-- clock, count, programs, entries, as they are
abbrev raw : ℕ → ℕ → List Program → List Entry → Schedule
raw clock count ps hs = record { clock = clock; count = count; programs = ps; entries = hs }

-- program 0 and a last place; entries with unused ones behind them
abbrev schedule : ℕ → ℕ → Program → List Entry → Schedule
schedule clock count last hs =
    raw clock count (program true 0 1 ∷ (replicate 6 no_program ++ (last ∷ []))) (hs ++ replicate (48 - length hs) no_entry)

-- the last place of the programs, at clock 0
abbrev placed : Program → Schedule
placed p = schedule 0 0 p []

-- the held events, all of them in use, at clock 5000
abbrev holds : List Entry → Schedule
holds hs = schedule 5000 (length hs) no_program hs

-- one entry behind those in use
abbrev behind : Entry → Schedule
behind h = schedule 5000 0 no_program (h ∷ [])

-- an event of program 0, id 1, on control 0
abbrev of_times : ℕ → ℕ → ℕ → ℕ → Event
of_times start duration rs sd = event_of 1 0 1 0 start duration rs 0 sd 0

-- one on these controls, under this id, from 4900 to 5100
abbrev plain : ℕ → ℕ → Event
plain i controls = event_of i 0 controls 0 4900 200 0 0 0 0

-- one that has begun and holds this mask, the user never out
abbrev begun : ℕ → ℕ → ℕ → Entry
begun i controls held = entry_as (plain i controls) 4900 held false (cond (eqb held 0) unheld stayed_in)

-- one on control 0 that holds this mask, with a choice
abbrev choosing : ℕ → Choice → Entry
choosing held c = entry_as (plain 1 1) 4900 held false c

-- n entries with the ids from 1 on
abbrev several : ℕ → List Entry
several zero = []
several (suc n) = several n ++ (begun (n + 1) 1 0 ∷ [])

infix 70 ◌keeps◌
abbrev ◌keeps◌ : Schedule → Bool → RuleCase
s keeps b = record { schedule = s; kept = b }

abbrev good : Schedule → RuleCase
good s = s keeps true

abbrev broken : Schedule → RuleCase
broken s = s keeps false

unfoldable pub rule_table : List RuleCase
rule_table =
    -- the arrays have their places
    good (raw 0 0 (replicate 8 no_program) (replicate 48 no_entry))
    ∷ broken (raw 0 0 (replicate 7 no_program) (replicate 48 no_entry))
    ∷ broken (raw 0 0 (replicate 9 no_program) (replicate 48 no_entry))
    ∷ broken (raw 0 0 (replicate 8 no_program) (replicate 47 no_entry))
    ∷ broken (raw 0 0 (replicate 8 no_program) (replicate 49 no_entry))
    -- limits: the clock, the count
    ∷ good (schedule 9000000000 0 no_program [])
    ∷ broken (schedule 9000000001 0 no_program [])
    ∷ good (holds (several 48))
    ∷ broken (schedule 5000 49 no_program (several 48))
    -- programs pass 5; an unused place is zero
    ∷ good (placed (program true 2 0))
    ∷ broken (placed (program true 3 0))
    ∷ broken (placed (program true 64 0))
    ∷ good (placed (program true 65 1))
    ∷ good (placed (program true 191 1))
    ∷ broken (placed (program true 192 1))
    ∷ good (placed (program true 0 0))
    ∷ broken (placed (program false 1 0))
    ∷ broken (placed (program false 0 1))
    -- an unused event place is zero, in each of its fields
    ∷ good (behind no_entry)
    ∷ broken (behind (entry_as (event_of 1 0 0 0 0 0 0 0 0 0) 0 0 false unheld))
    ∷ broken (behind (entry_as (event_of half_limit 0 0 0 0 0 0 0 0 0) 0 0 false unheld))
    ∷ broken (behind (entry_as (event_of 0 1 0 0 0 0 0 0 0 0) 0 0 false unheld))
    ∷ broken (behind (entry_as (event_of 0 0 1 0 0 0 0 0 0 0) 0 0 false unheld))
    ∷ broken (behind (entry_as (event_of 0 0 0 1 0 0 0 0 0 0) 0 0 false unheld))
    ∷ broken (behind (entry_as (event_of 0 0 0 0 1 0 0 0 0 0) 0 0 false unheld))
    ∷ broken (behind (entry_as (event_of 0 0 0 0 0 1 0 0 0 0) 0 0 false unheld))
    ∷ broken (behind (entry_as (event_of 0 0 0 0 0 0 1 0 0 0) 0 0 false unheld))
    ∷ broken (behind (entry_as (event_of 0 0 0 0 0 0 0 1 0 0) 0 0 false unheld))
    ∷ broken (behind (entry_as (event_of 0 0 0 0 0 0 0 0 1 0) 0 0 false unheld))
    ∷ broken (behind (entry_as (event_of 0 0 0 0 0 0 0 0 0 1) 0 0 false unheld))
    ∷ broken (behind (entry_as (event_of 0 0 0 0 0 0 0 0 0 0) 1 0 false unheld))
    ∷ broken (behind (entry_as (event_of 0 0 0 0 0 0 0 0 0 0) 0 1 false unheld))
    ∷ broken (behind (entry_as (event_of 0 0 0 0 0 0 0 0 0 0) 0 0 true unheld))
    ∷ broken (behind (entry_as (event_of 0 0 0 0 0 0 0 0 0 0) 0 0 false (choice 1 0 0)))
    ∷ broken (behind (entry_as (event_of 0 0 0 0 0 0 0 0 0 0) 0 0 false (choice 0 1 0)))
    ∷ broken (behind (entry_as (event_of 0 0 0 0 0 0 0 0 0 0) 0 0 false (choice 0 0 1)))
    ∷ broken (behind (begun 1 1 0))
    ∷ broken (schedule 5000 1 no_program (several 2))
    ∷ broken (schedule 5000 2 no_program (several 1))
    -- ids ascend, those next to each other and all others
    ∷ good (holds (begun 1 1 0 ∷ begun 2 1 0 ∷ begun 3 1 0 ∷ []))
    ∷ broken (holds (begun 1 1 0 ∷ begun 1 1 0 ∷ []))
    ∷ broken (holds (begun 2 1 0 ∷ begun 1 1 0 ∷ []))
    ∷ broken (holds (begun 2 1 0 ∷ begun 3 1 0 ∷ begun 2 1 0 ∷ []))
    -- #104: by all 128 bits: an upper half decides before the lower one, and its top bit is no sign
    ∷ good (holds (begun 0x00000000000000000000000000000002 1 0 ∷ begun 0x00000000000000010000000000000001 1 0 ∷ begun 0x00000000000000010000000000000002 1 0 ∷ begun 0x80000000000000000000000000000000 1 0 ∷ []))
    ∷ broken (holds (begun 0x00000000000000010000000000000001 1 0 ∷ begun 0x00000000000000000000000000000002 1 0 ∷ []))
    ∷ broken (holds (begun 0x00000000000000010000000000000002 1 0 ∷ begun 0x00000000000000010000000000000001 1 0 ∷ []))
    ∷ broken (holds (begun 0x80000000000000000000000000000000 1 0 ∷ begun 0x00000000000000010000000000000002 1 0 ∷ []))
    -- events pass 3 and 6: the last program, one that was not added, one that is none
    ∷ good (schedule 5000 1 (program true 1 0) (entry_as (event_of 1 7 1 0 4900 200 0 0 0 0) 4900 1 false stayed_in ∷ []))
    ∷ broken (schedule 5000 1 no_program (entry_as (event_of 1 7 1 0 4900 200 0 0 0 0) 4900 1 false stayed_in ∷ []))
    ∷ broken (schedule 5000 1 (program true 1 0) (entry_as (event_of 1 8 1 0 4900 200 0 0 0 0) 4900 1 false stayed_in ∷ []))
    -- events pass 7
    ∷ good (schedule 3600 1 no_program (entry_as (of_times 3600 1 0 0) 3600 1 false stayed_in ∷ []))
    ∷ broken (schedule 3599 1 no_program (entry_as (of_times 3599 2 0 0) 3599 1 false stayed_in ∷ []))
    ∷ broken (holds (entry_as (plain 1 0) 4900 0 false unheld ∷ []))
    ∷ broken (holds (entry_as (event_of 1 0 1 0 4900 200 0 3600 0 3601) 4900 1 false stayed_in ∷ []))
    -- the effective start: not before the drawn start, before the effective end; also one that no run leaves
    ∷ good (schedule 0 1 no_program (entry_as (of_times 5000 200 100 50) 5050 0 false unheld ∷ []))
    ∷ broken (schedule 0 1 no_program (entry_as (of_times 5000 200 100 50) 5049 0 false unheld ∷ []))
    ∷ good (schedule 0 1 no_program (entry_as (of_times 5000 200 100 50) 5249 0 false unheld ∷ []))
    ∷ broken (schedule 0 1 no_program (entry_as (of_times 5000 200 100 50) 5250 0 false unheld ∷ []))
    ∷ good (schedule 0 1 no_program (entry_as (of_times 3600 1 (minus 3600) (minus 3600)) 0 1 false stayed_in ∷ []))
    -- the effective end is after the clock
    ∷ good (schedule 5099 1 no_program (begun 1 1 1 ∷ []))
    ∷ broken (schedule 5100 1 no_program (begun 1 1 1 ∷ []))
    -- the held mask is within the controls
    ∷ good (holds (begun 1 5 5 ∷ []))
    ∷ good (holds (begun 1 5 4 ∷ []))
    ∷ broken (holds (begun 1 5 2 ∷ []))
    ∷ broken (holds (begun 1 5 7 ∷ []))
    -- it is zero before the start
    ∷ good (schedule 4900 1 no_program (begun 1 1 1 ∷ []))
    ∷ broken (schedule 4899 1 no_program (begun 1 1 1 ∷ []))
    ∷ good (schedule 4899 1 no_program (begun 1 1 0 ∷ []))
    -- and if the event is cancelled
    ∷ good (holds (entry_as (plain 1 1) 4900 0 true unheld ∷ []))
    ∷ broken (holds (entry_as (plain 1 1) 4900 1 true stayed_in ∷ []))
    -- #102: neither was in nor was out before the start; out is free
    ∷ good (schedule 4899 1 no_program (choosing 0 (choice 1 0 0) ∷ []))
    ∷ broken (schedule 4899 1 no_program (choosing 0 (choice 0 1 0) ∷ []))
    ∷ broken (schedule 4899 1 no_program (choosing 0 (choice 1 0 1) ∷ []))
    ∷ good (schedule 4900 1 no_program (choosing 0 (choice 0 1 0) ∷ []))
    ∷ good (schedule 4900 1 no_program (choosing 0 (choice 0 0 1) ∷ []))
    -- #102: one of them while the held mask is not zero; a started event whose mask is zero has them either way
    ∷ broken (holds (choosing 1 (choice 0 0 0) ∷ []))
    ∷ broken (holds (choosing 1 (choice 1 0 0) ∷ []))
    ∷ good (holds (choosing 1 (choice 1 1 0) ∷ []))
    ∷ good (holds (choosing 1 (choice 0 0 1) ∷ []))
    ∷ good (holds (choosing 1 (choice 1 1 1) ∷ []))
    ∷ good (holds (choosing 0 (choice 1 0 0) ∷ []))
    ∷ good (holds (choosing 0 (choice 0 1 1) ∷ []))
    ∷ good (holds (entry_as (plain 1 1) 4900 0 true (choice 1 1 1) ∷ []))
    -- held masks share no bit; the better of two may hold nothing
    ∷ good (holds (begun 1 7 5 ∷ begun 2 7 2 ∷ []))
    ∷ broken (holds (begun 1 7 5 ∷ begun 2 7 3 ∷ []))
    ∷ broken (holds (begun 1 7 1 ∷ begun 2 7 2 ∷ begun 3 7 1 ∷ []))
    ∷ good (holds (begun 1 7 7 ∷ begun 2 7 0 ∷ []))
    -- a rule is broken by any entry, not by the first alone
    ∷ broken (holds (begun 1 1 0 ∷ begun 2 1 2 ∷ []))
    ∷ []

-- NUMBER 2

-- a schedule by value, a call on it, and the call's number
pub record NumberCase : Type 0 where
  pub schedule : Schedule
  pub call : Call
  pub number : ℕ

-- what a schedule says of its programs and of its first entry
abbrev says : Schedule → List ℕ
says s = s.clock ∷ s.count ∷ (program_numbers s.programs ++ entry_numbers (get_or s.entries 0 no_entry))

-- whether the number is given, with nothing changed if it refuses
unfoldable pub numbers_hold : List NumberCase → Bool
numbers_hold [] = true
numbers_hold (c ∷ cs) =
    let o = call c.schedule c.call in
    eqb o.number c.number && (eqb c.number 0 || same (says o.state) (says c.schedule)) && numbers_hold cs

infix 70 ◌on◌gets◌
abbrev ◌on◌gets◌ : Call → Schedule → ℕ → NumberCase
c on s gets n = record { schedule = s; call = c; number = n }

-- the last reading of the clock, and a second more
abbrev last_second : Schedule
last_second = schedule 9000000000 0 no_program []

abbrev beyond : Schedule
beyond = schedule 9000000001 0 no_program []

unfoldable pub number_table : List NumberCase
number_table =
    -- 2 stands before every other number of each call
    ask 0 on last_second gets 0
    ∷ ask 0 on beyond gets 2
    ∷ ask 32 on last_second gets 14
    ∷ ask 32 on beyond gets 2
    ∷ add_program 1 1 1 on last_second gets 0
    ∷ add_program 8 1 1 on last_second gets 3
    ∷ add_program 8 1 1 on beyond gets 2
    ∷ deliver (plain 1 1) on last_second gets 9
    ∷ deliver (plain 1 1) on beyond gets 2
    ∷ cancel 1 on last_second gets 11
    ∷ cancel 1 on beyond gets 2
    ∷ opt_out 1 on last_second gets 11
    ∷ opt_out 1 on beyond gets 2
    ∷ opt_in 1 on last_second gets 11
    ∷ opt_in 1 on beyond gets 2
    ∷ set_clock 9000000000 [] on last_second gets 0
    ∷ set_clock 9000000001 [] on last_second gets 12
    ∷ set_clock 9000000001 [] on beyond gets 2
    ∷ list [] on last_second gets 0
    ∷ list [] on beyond gets 2
    -- a refused call has changed nothing
    ∷ add_program 0 1 9 on last_second gets 4
    ∷ deliver (event_of 1 0 7 0 4900 200 0 0 0 0) on (holds (begun 1 1 1 ∷ [])) gets 8
    ∷ []

-- THE BYTES

-- fields that all differ: first and second program, first, second and last event; a schedule that breaks rules, since bytes are not judged
abbrev layout : Schedule
layout =
    raw 0x0102030405060708 0x09
    (program true 0x0A 0x0B0C0D0E ∷ program false 0x0F 0x10111213 ∷ (replicate 5 no_program ++ (program true 0x14 0x15161718 ∷ [])))
    (entry_as (event_of 0x191A1B1C1D1E1F202122232425262728 0x29 0x2A2B2C2D 0x2E2F3031 0x32333435 0x36373839 0x3A3B 0x3C3D 0x3E3F 0x4041) 0x4243444546474849 0x4A4B4C4D true (choice 1 0 0)
    ∷ entry_as (event_of 0x4E4F505152535455565758595A5B5C5D 0x5E 0x5F606162 0x63646566 0x6768696A 0x6B6C6D6E 0x6F70 0x7172 0x7374 0x7576) 0x7778797A7B7C7D7E 0x7F808182 false (choice 0 1 0)
    ∷ (replicate 45 no_entry
    ++ (entry_as (event_of 0x838485868788898A8B8C8D8E8F909192 0x93 0x94959697 0x98999A9B 0x9C9D9E9F 0xA0A1A2A3 0xA4A5 0xA6A7 0xA8A9 0xAAAB) 0xACADAEAFB0B1B2B3 0xB4B5B6B7 true (choice 1 0 1) ∷ [])))

-- n numbers one after the other, from x on
abbrev from : ℕ → ℕ → List ℕ
from x zero = []
from x (suc n) = x ∷ from (x + 1) n

-- the image of that: clock and count; two program entries, five unused, the last; two event entries, 45 unused, the last
abbrev layout_bytes : List ℕ
layout_bytes =
    from 0x01 9
    ++ (1 ∷ from 0x0A 5 ++ (0 ∷ from 0x0F 5 ++ (replicate 30 0 ++ (1 ∷ from 0x14 5
    ++ (from 0x19 53 ++ (1 ∷ 1 ∷ from 0x4E 53 ++ (0 ∷ 2 ∷ replicate 2475 0 ++ (from 0x83 53 ++ (1 ∷ 5 ∷ [])))))))))

-- what a schedule says where `layout` says something: clock, count, lengths, programs, the first two entries and the last
abbrev numbers : Schedule → List ℕ
numbers s =
    s.clock ∷ s.count ∷ length s.programs ∷ length s.entries
    ∷ (program_numbers s.programs
    ++ (entry_numbers (get_or s.entries 0 no_entry) ++ (entry_numbers (get_or s.entries 1 no_entry) ++ entry_numbers (get_or s.entries 47 no_entry))))

-- a row whose bytes all differ
abbrev row_layout : Row
row_layout = record { time = 0x0102030405060708; id = 0x090A0B0C0D0E0F101112131415161718; code = 0x19 }

unfoldable pub bytes_hold : Bool
bytes_hold =
    same (image layout) layout_bytes
    && same (numbers (loaded layout_bytes)) (numbers layout)
    && same (row_bytes row_layout) (from 1 25)

-- SIZES

-- the sizes beside the numbers that documents 01 and 02 give for them
unfoldable pub sizes_hold : Bool
sizes_hold =
    same (most_events ∷ most_programs ∷ last_program ∷ most_controls ∷ last_control ∷ most_rows ∷ []) (48 ∷ 8 ∷ 7 ∷ 32 ∷ 31 ∷ 96 ∷ [])
    && same (half_size ∷ id_size ∷ half_limit ∷ id_limit ∷ []) (8 ∷ 16 ∷ 0x10000000000000000 ∷ 0x100000000000000000000000000000000 ∷ [])
    && same (row_size ∷ rows_size ∷ []) (25 ∷ 2400 ∷ [])
    && same (event_size ∷ entry_size ∷ mark_at ∷ choice_at ∷ record_size ∷ []) (41 ∷ 55 ∷ 53 ∷ 54 ∷ 63 ∷ [])
    && same (program_size ∷ programs_at ∷ entries_at ∷ image_size ∷ []) (6 ∷ 9 ∷ 57 ∷ 2697 ∷ [])
    && same (event_frame ∷ id_frame ∷ clock_frame ∷ program_frame ∷ ask_frame ∷ []) (42 ∷ 17 ∷ 9 ∷ 7 ∷ 2 ∷ [])

-- LENGTHS AND MARKS

-- bytes, and whether length and marks are an image's
pub record FormCase : Type 0 where
  pub bytes : List ℕ
  pub formed : Bool

unfoldable pub forms_hold : List FormCase → Bool
forms_hold [] = true
forms_hold (c ∷ cs) = agree (formed c.bytes) c.formed && forms_hold cs

-- an image of zeros with one other byte
abbrev zeros_but : ℕ → ℕ → List ℕ
zeros_but at b = over_at at (b ∷ []) (replicate 2697 0)

abbrev forms : Bool → List ℕ → FormCase
forms b l = record { bytes = l; formed = b }

unfoldable pub form_table : List FormCase
form_table =
    -- lengths
    forms false []
    ∷ forms false (replicate 2696 0)
    ∷ forms true (replicate 2697 0)
    ∷ forms false (replicate 2698 0)
    -- the mark of the first and the last program; of the first, the second and the last event
    ∷ forms true (zeros_but 9 1)
    ∷ forms false (zeros_but 9 2)
    ∷ forms true (zeros_but 51 1)
    ∷ forms false (zeros_but 51 2)
    ∷ forms true (zeros_but 110 1)
    ∷ forms false (zeros_but 110 2)
    ∷ forms false (zeros_but 165 2)
    ∷ forms true (zeros_but 2695 1)
    ∷ forms false (zeros_but 2695 2)
    -- #102: the choice of the first, the second and the last event: bits 0 to 2, and no other
    ∷ forms true (zeros_but 111 7)
    ∷ forms false (zeros_but 111 8)
    ∷ forms false (zeros_but 111 16)
    ∷ forms false (zeros_but 111 255)
    ∷ forms false (zeros_but 166 8)
    ∷ forms true (zeros_but 2696 7)
    ∷ forms false (zeros_but 2696 8)
    -- the bytes next to them are no marks
    ∷ forms true (zeros_but 8 2)
    ∷ forms true (zeros_but 10 2)
    ∷ forms true (zeros_but 16 2)
    ∷ forms true (zeros_but 50 2)
    ∷ forms true (zeros_but 52 2)
    ∷ forms true (zeros_but 57 2)
    ∷ forms true (zeros_but 109 2)
    ∷ forms true (zeros_but 112 8)
    ∷ forms true (zeros_but 2694 2)
    ∷ []

-- an image keeps both: its length and marks, and the rules. The first has the wrong length, the others a count of 49 and a clock beyond the last reading.
unfoldable pub refused_images : Bool
refused_images =
    not (imaged (replicate 2696 0))
    && not (imaged (zeros_but 8 49))
    && not (imaged (zeros_but 0 1))

pub record ImageTables : Type 0 where
  -- each rule is kept by one and broken by one
  pub rules : rules_hold rule_table ≡ true
  -- each byte stands where it belongs, and is read from there
  pub bytes : bytes_hold ≡ true
  pub sizes : sizes_hold ≡ true
  -- lengths and marks
  pub forms : forms_hold form_table ≡ true
  pub refused : refused_images ≡ true
  -- number 2, before every other
  pub numbers : numbers_hold number_table ≡ true
