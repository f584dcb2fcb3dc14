-- What is printed: a conversation with the program, each line beside all that it writes for it.
use Rattle.std.specs.Prelude.{◌≡◌, ℕ, Bool, true, ◌&&◌, List, [], ◌∷◌, ◌++◌}
use Prim.Native.String.{String}
use Rattle.rules.specs.Lists.{each}
use Rattle.rules.specs.Ascii.{ascii, lines}
use Rattle.rules.specs.Printed.{digits, id_digits, output}
use Rattle.rules.specs.Marks.{same}

-- a line, and the lines that are printed for it
pub record Said : Type 0 where
  pub line : String
  pub text : List String

-- a text, and all that is written for it
pub record Ending : Type 0 where
  pub text : String
  pub written : String

infix 70 ◌ends◌
abbrev ◌ends◌ : String → String → Ending
t ends w = record { text = t; written = w }

abbrev spoken : List Said → List String
spoken [] = []
spoken (s ∷ ss) = s.line ∷ spoken ss

abbrev printed : List Said → List String
printed [] = []
printed (s ∷ ss) = s.text ++ printed ss

infix 70 ◌prints◌
abbrev ◌prints◌ : String → List String → Said
l prints ts = record { line = l; text = ts }

abbrev quiet : String → Said
quiet l = l prints []

infix 70 ◌says◌
abbrev ◌says◌ : String → String → Said
l says t = l prints (t ∷ [])

abbrev conversation : List Said
conversation =
    -- programs 0 (defaults for controls 0, 10 and 31) and 7 (for control 1); numbers 3, 4, 5
    quiet "04000180000401"
    ∷ quiet "04074100000002"
    ∷ "04074100000002" says "refused 4"
    ∷ "04080200000000" says "refused 3"
    ∷ "04010300000000" says "refused 5"
    -- questions: a default by its program, none, number 14
    ∷ "0500" says "0 default 0"
    ∷ "0501" says "1 default 7"
    ∷ "0502" says "2 none"
    ∷ "050A" says "10 default 0"
    ∷ "051F" says "31 default 0"
    ∷ "0520" says "refused 14"
    ∷ "05FF" says "refused 14"
    -- number 1: an empty line, a short one, lower case
    ∷ "" says "refused 1"
    ∷ "05" says "refused 1"
    ∷ "050a" says "refused 1"
    ∷ quiet "030000000000000FA0"
    -- events: ids of one digit, of two, of thirty-nine; the same again prints nothing
    ∷ "01000000000000000000000000000000000000000008000000640000138800000064000000000000FFFF" says "refused 7"
    ∷ "010000000000000000000000000000000000000000080000006400001388000000640000000000000000" says "4000 0 1"
    ∷ "010000000000000000000000000000000900000000010000006400001388000002580000000000000000" says "4000 9 1"
    ∷ "010000000000000000000000000000000A00000000020000006400001388000002580000000000000000" says "4000 10 1"
    ∷ "01FFFFFFFFFFFFFFFFFFFFFFFFFFFFFFFF00000000040000006400001388000000640000000000000000" says "4000 340282366920938463463374607431768211455 1"
    ∷ "014B3B4CA85A86C47A098A22400000000000000000010000000000001388000002580000000000000000" says "4000 100000000000000000000000000000000000000 1"
    ∷ quiet "010000000000000000000000000000000900000000010000006400001388000002580000000000000000"
    -- #104: ids on both sides of 2 ^ 64, and with zeros between their digits; the frames with an id of 64 bits are none
    ∷ "010000000000000000FFFFFFFFFFFFFFFF00000100000000006400001388000000640000000000000000" says "4000 18446744073709551615 1"
    ∷ "020000000000000000FFFFFFFFFFFFFFFF" says "4000 18446744073709551615 6"
    ∷ "010000000000000001000000000000000000000100000000006400001388000000640000000000000000" says "4000 18446744073709551616 1"
    ∷ "0200000000000000010000000000000000" says "4000 18446744073709551616 6"
    ∷ "01000000000000D3C21BCECCEDA100000000000100000000006400001388000000640000000000000000" says "4000 1000000000000000000000000 1"
    ∷ "02000000000000D3C21BCECCEDA1000000" says "4000 1000000000000000000000000 6"
    ∷ "01000004EE2D6D415B85ACEF8105F5E10000000100000000006400001388000000640000000000000000" says "4000 100000000000000000000000100000000 1"
    ∷ "02000004EE2D6D415B85ACEF8105F5E100" says "4000 100000000000000000000000100000000 6"
    ∷ "01000000000000000B00000000010000006400001388000002580000000000000000" says "refused 1"
    ∷ "02000000000000000A" says "refused 1"
    ∷ "06000000000000000A" says "refused 1"
    ∷ "07000000000000000A" says "refused 1"
    -- numbers 6, 7, 8, 9
    ∷ "010000000000000000000000000000000B03000000010000006400001388000002580000000000000000" says "refused 6"
    ∷ "010000000000000000000000000000000B00000000010000006400000E0F000002580000000000000000" says "refused 7"
    ∷ "010000000000000000000000000000000900000000010000006400001388000002590000000000000000" says "refused 8"
    ∷ "010000000000000000000000000000000B00000000010000006400000E10000001900000000000000000" says "refused 9"
    -- cancelled, and cancelled again; numbers 11, 12
    ∷ "020000000000000000000000000000000A" says "4000 10 6"
    ∷ quiet "020000000000000000000000000000000A"
    ∷ "020000000000000000000000000000004D" says "refused 11"
    -- #102: choices, and choices that repeat the present one
    ∷ quiet "0700000000000000000000000000000009"
    ∷ "0600000000000000000000000000000009" says "4000 9 4"
    ∷ quiet "0600000000000000000000000000000009"
    ∷ "0700000000000000000000000000000009" says "4000 9 5"
    ∷ "060000000000000000000000000000000A" says "4000 10 4"
    ∷ "06FFFFFFFFFFFFFFFFFFFFFFFFFFFFFFFF" says "4000 340282366920938463463374607431768211455 4"
    ∷ "060000000000000000000000000000004D" says "refused 11"
    ∷ "070000000000000000000000000000004D" says "refused 11"
    ∷ "030000000000000F9F" says "refused 12"
    -- rows of one moment; an event that holds a control, the default of one whose event was cancelled
    ∷ "030000000000001388" prints ("5000 100000000000000000000000000000000000000 7" ∷ "5000 0 2" ∷ "5000 9 2" ∷ "5000 340282366920938463463374607431768211455 2" ∷ [])
    ∷ "0500" says "0 event 9"
    ∷ "0501" says "1 default 7"
    ∷ "0502" says "2 none"
    ∷ "07FFFFFFFFFFFFFFFFFFFFFFFFFFFFFFFF" says "5000 340282366920938463463374607431768211455 5"
    ∷ "0502" says "2 event 340282366920938463463374607431768211455"
    ∷ "0600000000000000000000000000000009" says "5000 9 4"
    ∷ "0500" says "0 default 0"
    ∷ "0503" says "3 event 0"
    ∷ "02FFFFFFFFFFFFFFFFFFFFFFFFFFFFFFFF" says "5000 340282366920938463463374607431768211455 6"
    ∷ "0502" says "2 none"
    ∷ "030000000000001770" prints ("5100 0 3" ∷ "5600 9 8" ∷ [])
    ∷ quiet "030000000000001770"
    -- times of ten digits; the last reading and the next
    ∷ "0100000000000000000000000000000063000000000100000064FFFFFFFF000000010000000000000000" says "6000 99 1"
    ∷ "0100000000000000000000000000000064070000000200000064FFFFFFFF000000020000000000000000" says "6000 100 1"
    ∷ "030000000218711A01" says "refused 12"
    ∷ "030000000218711A00" prints ("4294967295 99 2" ∷ "4294967295 100 2" ∷ "4294967296 99 3" ∷ "4294967297 100 3" ∷ [])
    ∷ "010000000000000000000000000000000900000000010000006400001388000002580000000000000000" says "refused 9"
    ∷ []

-- where a line ends: a line feed ends it, and the last may lack it
abbrev endings : List Ending
endings =
    ("" ends "")
    ∷ ("\n" ends "refused 1\n")
    ∷ ("0500" ends "0 none\n")
    ∷ ("0500\n" ends "0 none\n")
    ∷ ("0500\n\n" ends "0 none\nrefused 1\n")
    ∷ ("0500\n0501" ends "0 none\n1 none\n")
    ∷ ("\n0500" ends "refused 1\n0 none\n")
    ∷ ("0500\r\n0501" ends "refused 1\n1 none\n")
    ∷ []

-- whether each text is written for as the table has it
unfoldable pub endings_hold : (List ℕ → List ℕ) → Bool
endings_hold writes = each (λ e. same (writes (ascii e.text)) (ascii e.written)) endings

-- what the program reads, and what it writes for it
unfoldable pub text_input : List ℕ
text_input = lines (spoken conversation)

unfoldable pub text_output : List ℕ
text_output = lines (printed conversation)

-- the greatest numbers on 64 bits and on 128, with all their digits
unfoldable pub digits_hold : Bool
digits_hold = same (digits 0xFFFFFFFFFFFFFFFF) (ascii "18446744073709551615") && same (id_digits 0xFFFFFFFFFFFFFFFFFFFFFFFFFFFFFFFF) (ascii "340282366920938463463374607431768211455")

pub record TextTables : Type 0 where
  -- every text that is printed
  pub texts : output text_input ≡ text_output
  -- and where lines end
  pub endings : endings_hold output ≡ true
  -- and the longest numbers
  pub digits : digits_hold ≡ true
