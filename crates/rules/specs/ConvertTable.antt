-- Recorded lines: each beside what it is turned into, lent buffers on both sides of the need, and what the programs write for texts.
use Rattle.std.specs.Prelude.{◌≡◌, ℕ, ◌-◌, ◌^◌, Bool, true, not, ◌&&◌, ◌||◌, List, [], ◌∷◌, ◌++◌, eqb, replicate}
use Prim.Native.String.{String}
use Rattle.rules.specs.Lists.{each}
use Rattle.rules.specs.Ascii.{ascii, lines}
use Rattle.rules.specs.Records.{half_size}
use Rattle.rules.specs.Calls.{Value, nothing, count}
use Rattle.rules.specs.Printed.{output_in}
use Rattle.rules.specs.Converted.{Turned, lengthened, shortened, LineOutcome, turned_into, face_line, converted}
use Rattle.rules.specs.Marks.{same}
use Rattle.rules.specs.Script.{value_numbers}
use Rattle.rules.specs.Example.{example_input, example_output}

-- a line, the number that refuses it, 0 for none, and the line that it becomes
pub record Turning : Type 0 where
  pub line : String
  pub number : ℕ
  pub turned : String

infix 70 ◌becomes◌
abbrev ◌becomes◌ : String → String → Turning
l becomes m = record { line = l; number = 0; turned = m }

infix 70 ◌refused◌
abbrev ◌refused◌ : String → ℕ → Turning
l refused n = record { line = l; number = n; turned = "" }

-- whether a line that is not refused becomes that one
abbrev becoming : Turned → Turning → Bool
becoming t c = eqb t.number c.number && (not (eqb c.number 0) || same t.line (ascii c.turned))

-- whether each line of a table is turned into what stands beside it
unfoldable pub turns_hold : (List ℕ → Turned) → List Turning → Bool
turns_hold turn cs = each (λ c. becoming (turn (ascii c.line)) c) cs

-- lines lengthened
unfoldable pub length_table : List Turning
length_table =
    -- every kind with an id, all its bytes different: eight zero bytes behind the kind
    "010102030405060708090A0B0C0D0E0F101112131415161718191A1B1C1D1E1F2021" becomes "0100000000000000000102030405060708090A0B0C0D0E0F101112131415161718191A1B1C1D1E1F2021"
    ∷ "02F1F2F3F4F5F6F7F8" becomes "020000000000000000F1F2F3F4F5F6F7F8"
    ∷ "06B1B2B3B4B5B6B7B8" becomes "060000000000000000B1B2B3B4B5B6B7B8"
    ∷ "07A1A2A3A4A5A6A7A8" becomes "070000000000000000A1A2A3A4A5A6A7A8"
    -- the kinds without an id
    ∷ "03E1E2E3E4E5E6E7E8" becomes "03E1E2E3E4E5E6E7E8"
    ∷ "04D1D2D3D4D5D6" becomes "04D1D2D3D4D5D6"
    ∷ "05C1" becomes "05C1"
    -- no field is looked at: an event of program 255 without controls, start and duration
    ∷ "01FFFFFFFFFFFFFFFFFF000000000000000000000000000000000000000000000000" becomes "010000000000000000FFFFFFFFFFFFFFFFFF000000000000000000000000000000000000000000000000"
    -- lines with an id that are long already
    ∷ "0100000000000000000102030405060708090A0B0C0D0E0F101112131415161718191A1B1C1D1E1F2021" refused 1
    ∷ "020000000000000000F1F2F3F4F5F6F7F8" refused 1
    ∷ "060000000000000000B1B2B3B4B5B6B7B8" refused 1
    ∷ "070000000000000000A1A2A3A4A5A6A7A8" refused 1
    -- every kind one digit short, one digit long, one byte short, one byte long
    ∷ "010102030405060708090A0B0C0D0E0F101112131415161718191A1B1C1D1E1F202" refused 1
    ∷ "010102030405060708090A0B0C0D0E0F101112131415161718191A1B1C1D1E1F20210" refused 1
    ∷ "010102030405060708090A0B0C0D0E0F101112131415161718191A1B1C1D1E1F20" refused 1
    ∷ "010102030405060708090A0B0C0D0E0F101112131415161718191A1B1C1D1E1F202100" refused 1
    ∷ "02F1F2F3F4F5F6F7F" refused 1
    ∷ "02F1F2F3F4F5F6F7F80" refused 1
    ∷ "02F1F2F3F4F5F6F7" refused 1
    ∷ "02F1F2F3F4F5F6F7F800" refused 1
    ∷ "06B1B2B3B4B5B6B7B" refused 1
    ∷ "06B1B2B3B4B5B6B7B80" refused 1
    ∷ "06B1B2B3B4B5B6B7" refused 1
    ∷ "06B1B2B3B4B5B6B7B800" refused 1
    ∷ "07A1A2A3A4A5A6A7A" refused 1
    ∷ "07A1A2A3A4A5A6A7A80" refused 1
    ∷ "07A1A2A3A4A5A6A7" refused 1
    ∷ "07A1A2A3A4A5A6A7A800" refused 1
    ∷ "03E1E2E3E4E5E6E7E" refused 1
    ∷ "03E1E2E3E4E5E6E7E80" refused 1
    ∷ "03E1E2E3E4E5E6E7" refused 1
    ∷ "03E1E2E3E4E5E6E7E800" refused 1
    ∷ "04D1D2D3D4D5D" refused 1
    ∷ "04D1D2D3D4D5D60" refused 1
    ∷ "04D1D2D3D4D5" refused 1
    ∷ "04D1D2D3D4D5D600" refused 1
    ∷ "05C" refused 1
    ∷ "05C10" refused 1
    ∷ "05" refused 1
    ∷ "05C100" refused 1
    -- numbers that are no kind, at the lengths of others; no byte at all; digits in lower case; spaces and a carriage return; what is printed for a refused line
    ∷ "000102030405060708090A0B0C0D0E0F101112131415161718191A1B1C1D1E1F2021" refused 1
    ∷ "080102030405060708090A0B0C0D0E0F101112131415161718191A1B1C1D1E1F2021" refused 1
    ∷ "00F1F2F3F4F5F6F7F8" refused 1
    ∷ "08F1F2F3F4F5F6F7F8" refused 1
    ∷ "" refused 1
    ∷ "0" refused 1
    ∷ "02f1F2F3F4F5F6F7F8" refused 1
    ∷ "02F1F2F3F4F5F6F7FG" refused 1
    ∷ "05C1\r" refused 1
    ∷ " 05C1" refused 1
    ∷ "05C1 " refused 1
    ∷ "refused 1" refused 1
    ∷ []

-- lines shortened
unfoldable pub short_table : List Turning
short_table =
    -- every kind with an id, its upper half zero, and with the greatest lower half
    "0100000000000000000102030405060708090A0B0C0D0E0F101112131415161718191A1B1C1D1E1F2021" becomes "010102030405060708090A0B0C0D0E0F101112131415161718191A1B1C1D1E1F2021"
    ∷ "020000000000000000F1F2F3F4F5F6F7F8" becomes "02F1F2F3F4F5F6F7F8"
    ∷ "060000000000000000B1B2B3B4B5B6B7B8" becomes "06B1B2B3B4B5B6B7B8"
    ∷ "070000000000000000A1A2A3A4A5A6A7A8" becomes "07A1A2A3A4A5A6A7A8"
    ∷ "020000000000000000FFFFFFFFFFFFFFFF" becomes "02FFFFFFFFFFFFFFFF"
    -- the kinds without an id
    ∷ "03E1E2E3E4E5E6E7E8" becomes "03E1E2E3E4E5E6E7E8"
    ∷ "04D1D2D3D4D5D6" becomes "04D1D2D3D4D5D6"
    ∷ "05C1" becomes "05C1"
    -- no field is looked at
    ∷ "010000000000000000FFFFFFFFFFFFFFFFFF000000000000000000000000000000000000000000000000" becomes "01FFFFFFFFFFFFFFFFFF000000000000000000000000000000000000000000000000"
    -- 15: the upper half of an id is not zero, by its lowest bit, by its highest, by each
    ∷ "0100000000000000010102030405060708090A0B0C0D0E0F101112131415161718191A1B1C1D1E1F2021" refused 15
    ∷ "0180000000000000000102030405060708090A0B0C0D0E0F101112131415161718191A1B1C1D1E1F2021" refused 15
    ∷ "020000000000000001F1F2F3F4F5F6F7F8" refused 15
    ∷ "028000000000000000F1F2F3F4F5F6F7F8" refused 15
    ∷ "060000000000000001B1B2B3B4B5B6B7B8" refused 15
    ∷ "068000000000000000B1B2B3B4B5B6B7B8" refused 15
    ∷ "070000000000000001A1A2A3A4A5A6A7A8" refused 15
    ∷ "078000000000000000A1A2A3A4A5A6A7A8" refused 15
    ∷ "0200000000000000010000000000000000" refused 15
    ∷ "0200000000000010000000000000000000" refused 15
    ∷ "0200000000001000000000000000000000" refused 15
    ∷ "0200000000100000000000000000000000" refused 15
    ∷ "0200000010000000000000000000000000" refused 15
    ∷ "0200001000000000000000000000000000" refused 15
    ∷ "0200100000000000000000000000000000" refused 15
    ∷ "0210000000000000000000000000000000" refused 15
    -- 1 comes before 15: such lines with a digit too few, a byte too many, a digit that is none
    ∷ "0100000000000000010102030405060708090A0B0C0D0E0F101112131415161718191A1B1C1D1E1F202" refused 1
    ∷ "0100000000000000010102030405060708090A0B0C0D0E0F101112131415161718191A1B1C1D1E1F202100" refused 1
    ∷ "0100000000000000010102030405060708090A0B0C0D0E0F101112131415161718191A1B1C1D1E1F202g" refused 1
    ∷ "020000000000000001F1F2F3F4F5F6F7F" refused 1
    ∷ "020000000000000001F1F2F3F4F5F6F7F800" refused 1
    ∷ "020000000000000001F1F2F3F4F5F6F7Fg" refused 1
    ∷ "060000000000000001B1B2B3B4B5B6B7B" refused 1
    ∷ "060000000000000001B1B2B3B4B5B6B7B800" refused 1
    ∷ "060000000000000001B1B2B3B4B5B6B7Bg" refused 1
    ∷ "070000000000000001A1A2A3A4A5A6A7A" refused 1
    ∷ "070000000000000001A1A2A3A4A5A6A7A800" refused 1
    ∷ "070000000000000001A1A2A3A4A5A6A7Ag" refused 1
    -- lines with an id that are short already
    ∷ "010102030405060708090A0B0C0D0E0F101112131415161718191A1B1C1D1E1F2021" refused 1
    ∷ "02F1F2F3F4F5F6F7F8" refused 1
    ∷ "06B1B2B3B4B5B6B7B8" refused 1
    ∷ "07A1A2A3A4A5A6A7A8" refused 1
    -- every kind one digit short, one digit long, one byte short, one byte long
    ∷ "0100000000000000000102030405060708090A0B0C0D0E0F101112131415161718191A1B1C1D1E1F202" refused 1
    ∷ "0100000000000000000102030405060708090A0B0C0D0E0F101112131415161718191A1B1C1D1E1F20210" refused 1
    ∷ "0100000000000000000102030405060708090A0B0C0D0E0F101112131415161718191A1B1C1D1E1F20" refused 1
    ∷ "0100000000000000000102030405060708090A0B0C0D0E0F101112131415161718191A1B1C1D1E1F202100" refused 1
    ∷ "020000000000000000F1F2F3F4F5F6F7F" refused 1
    ∷ "020000000000000000F1F2F3F4F5F6F7F80" refused 1
    ∷ "020000000000000000F1F2F3F4F5F6F7" refused 1
    ∷ "020000000000000000F1F2F3F4F5F6F7F800" refused 1
    ∷ "060000000000000000B1B2B3B4B5B6B7B" refused 1
    ∷ "060000000000000000B1B2B3B4B5B6B7B80" refused 1
    ∷ "060000000000000000B1B2B3B4B5B6B7" refused 1
    ∷ "060000000000000000B1B2B3B4B5B6B7B800" refused 1
    ∷ "070000000000000000A1A2A3A4A5A6A7A" refused 1
    ∷ "070000000000000000A1A2A3A4A5A6A7A80" refused 1
    ∷ "070000000000000000A1A2A3A4A5A6A7" refused 1
    ∷ "070000000000000000A1A2A3A4A5A6A7A800" refused 1
    ∷ "03E1E2E3E4E5E6E7E" refused 1
    ∷ "03E1E2E3E4E5E6E7E80" refused 1
    ∷ "03E1E2E3E4E5E6E7" refused 1
    ∷ "03E1E2E3E4E5E6E7E800" refused 1
    ∷ "04D1D2D3D4D5D" refused 1
    ∷ "04D1D2D3D4D5D60" refused 1
    ∷ "04D1D2D3D4D5" refused 1
    ∷ "04D1D2D3D4D5D600" refused 1
    ∷ "05C" refused 1
    ∷ "05C10" refused 1
    ∷ "05" refused 1
    ∷ "05C100" refused 1
    -- numbers that are no kind; no byte at all; what is printed for a refused line
    ∷ "0000000000000000000102030405060708090A0B0C0D0E0F101112131415161718191A1B1C1D1E1F2021" refused 1
    ∷ "0800000000000000000102030405060708090A0B0C0D0E0F101112131415161718191A1B1C1D1E1F2021" refused 1
    ∷ "000000000000000000F1F2F3F4F5F6F7F8" refused 1
    ∷ "080000000000000000F1F2F3F4F5F6F7F8" refused 1
    ∷ "" refused 1
    ∷ "refused 1" refused 1
    ∷ "refused 15" refused 1
    ∷ []

-- a line turned, a buffer of so many bytes, all 7, and what the call gives: number, answer, buffer; and what it returns over C
pub record Lending : Type 0 where
  pub turned : Turned
  pub room : ℕ
  pub number : ℕ
  pub value : Value
  pub bytes : List ℕ
  pub returned : ℕ

abbrev sevens : ℕ → List ℕ
sevens n = replicate n 7

-- accepted: a line of n bytes, and those behind it as they were
abbrev fits : Turned → (room n : ℕ) → String → (behind : ℕ) → Lending
fits t room n l behind = record { turned = t; room = room; number = 0; value = count n; bytes = ascii l ++ sevens behind; returned = n }

abbrev refuses : Turned → (room n : ℕ) → Lending
refuses t room n = record { turned = t; room = room; number = n; value = nothing; bytes = sevens room; returned = 2 ^ 32 - n }

abbrev long : String → Turned
long l = lengthened (ascii l)

abbrev short : String → Turned
short l = shortened (ascii l)

abbrev lendings : List Lending
lendings =
    -- 13 on both sides of the need; bytes behind the line stay
    fits (long "02F1F2F3F4F5F6F7F8") 34 34 "020000000000000000F1F2F3F4F5F6F7F8" 0
    ∷ fits (long "02F1F2F3F4F5F6F7F8") 36 34 "020000000000000000F1F2F3F4F5F6F7F8" 2
    ∷ refuses (long "02F1F2F3F4F5F6F7F8") 33 13
    ∷ refuses (long "02F1F2F3F4F5F6F7F8") 0 13
    ∷ fits (long "05C1") 4 4 "05C1" 0
    ∷ refuses (long "05C1") 3 13
    ∷ fits (short "020000000000000000F1F2F3F4F5F6F7F8") 18 18 "02F1F2F3F4F5F6F7F8" 0
    ∷ fits (short "020000000000000000F1F2F3F4F5F6F7F8") 34 18 "02F1F2F3F4F5F6F7F8" 16
    ∷ refuses (short "020000000000000000F1F2F3F4F5F6F7F8") 17 13
    ∷ fits (short "05C1") 5 4 "05C1" 1
    ∷ refuses (short "05C1") 3 13
    -- 1 and 15 come before 13, and are given with room too
    ∷ refuses (long "02F1F2F3F4F5F6F7") 0 1
    ∷ refuses (long "02F1F2F3F4F5F6F7") 84 1
    ∷ refuses (short "02F1F2F3F4F5F6F7") 0 1
    ∷ refuses (short "020000000000000001F1F2F3F4F5F6F7F8") 0 15
    ∷ refuses (short "020000000000000001F1F2F3F4F5F6F7F8") 84 15
    ∷ []

abbrev lent : LineOutcome → Lending → Bool
lent o c = eqb o.number c.number && same (value_numbers o.value) (value_numbers c.value) && same o.bytes c.bytes && eqb (face_line o).0 c.returned && same (face_line o).1 c.bytes

unfoldable pub lendings_hold : Bool
lendings_hold = each (λ c. lent (turned_into c.turned (sevens c.room)) c) lendings

-- a text, and all that `lengthen` and `shorten` write for it
pub record Converting : Type 0 where
  pub text : String
  pub longer : String
  pub shorter : String

abbrev convertings : List Converting
convertings =
    record { text = ""; longer = ""; shorter = "" }
    ∷ record { text = "\n"; longer = "refused 1\n"; shorter = "refused 1\n" }
    ∷ record { text = "0500"; longer = "0500\n"; shorter = "0500\n" }
    ∷ record { text = "0500\n"; longer = "0500\n"; shorter = "0500\n" }
    ∷ record { text = "0500\n\n"; longer = "0500\nrefused 1\n"; shorter = "0500\nrefused 1\n" }
    ∷ record { text = "0500\r\n0501"; longer = "refused 1\n0501\n"; shorter = "refused 1\n0501\n" }
    ∷ record { text = "02F1F2F3F4F5F6F7F8\n0501\n"; longer = "020000000000000000F1F2F3F4F5F6F7F8\n0501\n"; shorter = "refused 1\n0501\n" }
    ∷ record { text = "020000000000000000F1F2F3F4F5F6F7F8"; longer = "refused 1\n"; shorter = "02F1F2F3F4F5F6F7F8\n" }
    ∷ record { text = "020100000000000000F1F2F3F4F5F6F7F8\n0500"; longer = "refused 1\n0500\n"; shorter = "refused 15\n0500\n" }
    ∷ []

unfoldable pub convertings_hold : Bool
convertings_hold = each (λ c. same (converted lengthened (ascii c.text)) (ascii c.longer) && same (converted shortened (ascii c.text)) (ascii c.shorter)) convertings

-- Frames and image, the example as document 01 prints it, with ids of 64 bits
unfoldable pub recorded_input : List ℕ
recorded_input =
    lines (
    "04000100000001"
    ∷ "030000000000000FA0"
    ∷ "01000000000000000100000000010000006400001388000002580000000000000000"
    ∷ "0100000000000000020000000001000000C8000014B40000003C0000000000000000"
    ∷ "030000000000001770"
    ∷ "0500"
    ∷ []
    )

-- a recorded text with lines that are refused: what is written for it over ids of 64 bits
unfoldable pub recorded_text : List ℕ
recorded_text =
    lines (
    "04000100000001"
    ∷ "020000000000000000F1F2F3F4F5F6F7F8"
    ∷ "refused 1"
    ∷ "01FFFFFFFFFFFFFFFF00000000010000006400001388000002580000000000000000"
    ∷ "02FFFFFFFFFFFFFFFE"
    ∷ "06FFFFFFFFFFFFFFFF"
    ∷ "07FFFFFFFFFFFFFFFF"
    ∷ "02FFFFFFFFFFFFFFFF"
    ∷ "02FFFFFFFFFFFFFFF"
    ∷ "0500"
    ∷ []
    )

unfoldable pub recorded_output : List ℕ
recorded_output =
    lines (
    "refused 1"
    ∷ "refused 1"
    ∷ "0 18446744073709551615 1"
    ∷ "refused 11"
    ∷ "0 18446744073709551615 4"
    ∷ "0 18446744073709551615 5"
    ∷ "0 18446744073709551615 6"
    ∷ "refused 1"
    ∷ "0 default 0"
    ∷ []
    )

pub record ConvertTables : Type 0 where
  -- lines of every kind, and lines that are none
  pub lengthens : turns_hold lengthened length_table ≡ true
  pub shortens : turns_hold shortened short_table ≡ true
  -- lent buffers
  pub lendings : lendings_hold ≡ true
  -- texts
  pub texts : convertings_hold ≡ true
  -- document 01's example as it was recorded: its lines lengthened, and what is written for it over ids of 64 bits
  pub example_lengthened : converted lengthened recorded_input ≡ example_input
  pub example : output_in half_size recorded_input ≡ example_output
  -- and so of a text with lines that are refused
  pub refused_lines : output_in half_size recorded_text ≡ recorded_output
