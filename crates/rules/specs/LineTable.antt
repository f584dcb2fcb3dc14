-- Lines: each kind of frame with its fields, and what is no frame. One line of the table each.
use Rattle.std.specs.Prelude.{ℕ, Bool, true, ◌&&◌, List, [], ◌∷◌}
use Prim.Native.String.{String}
use Rattle.rules.specs.declared.Event.{Event}
use Rattle.rules.specs.declared.Frame.{Frame}
use Rattle.rules.specs.declared.Frame.TheVariants as frame
use Rattle.rules.specs.declared.Line.{Line}
use Rattle.rules.specs.declared.Line.TheVariants.{Good, Bad}
use Rattle.rules.specs.Ascii.{ascii}
use Rattle.rules.specs.Records.{id_number, id_of}
use Rattle.rules.specs.Frames.{line_of}
use Rattle.rules.specs.Marks.{same}

-- the fields of an event, in document 01's order
abbrev pub event_numbers : Event → List ℕ
event_numbers e =
    id_of e ∷ e.program ∷ e.controls ∷ e.created ∷ e.start ∷ e.duration
    ∷ e.randomize_start ∷ e.randomize_duration ∷ e.start_draw ∷ e.duration_draw ∷ []

-- a frame's kind and fields
abbrev pub frame_numbers : Frame → List ℕ
frame_numbers (frame.Event e) = 1 ∷ event_numbers e
frame_numbers (frame.Cancel i) = 2 ∷ id_number i ∷ []
frame_numbers (frame.Clock t) = 3 ∷ t ∷ []
frame_numbers (frame.Program n p d) = 4 ∷ n ∷ p ∷ d ∷ []
frame_numbers (frame.Ask c) = 5 ∷ c ∷ []
frame_numbers (frame.OptOut i) = 6 ∷ id_number i ∷ []
frame_numbers (frame.OptIn i) = 7 ∷ id_number i ∷ []

-- the same of a line; nothing if it is no frame
abbrev pub line_numbers : Line → List ℕ
line_numbers (Good f) = frame_numbers f
line_numbers Bad = []

-- a line, and the kind and fields that it stands for
pub record LineCase : Type 0 where
  pub line : String
  pub frame : List ℕ

-- whether each line stands for what the table has beside it
unfoldable pub lines_hold : List LineCase → Bool
lines_hold [] = true
lines_hold (c ∷ cs) = same (line_numbers (line_of (ascii c.line))) c.frame && lines_hold cs

infix 70 ◌reads◌
abbrev ◌reads◌ : String → List ℕ → LineCase
l reads ns = record { line = l; frame = ns }

-- a line that is no frame
abbrev bad : String → LineCase
bad l = l reads []

abbrev asks : ℕ → List ℕ
asks c = 5 ∷ c ∷ []

unfoldable pub line_table : List LineCase
line_table =
    -- every kind, all its bytes different
    "010102030405060708090A0B0C0D0E0F101112131415161718191A1B1C1D1E1F20212223242526272829" reads (
    1 ∷ 0x0102030405060708090A0B0C0D0E0F10 ∷ 0x11 ∷ 0x12131415 ∷ 0x16171819 ∷ 0x1A1B1C1D ∷ 0x1E1F2021 ∷ 0x2223 ∷ 0x2425 ∷ 0x2627 ∷ 0x2829 ∷ []
    )
    ∷ "02F0E1D2C3B4A5968778695A4B3C2D1E0F" reads (2 ∷ 0xF0E1D2C3B4A5968778695A4B3C2D1E0F ∷ [])
    ∷ "03E1E2E3E4E5E6E7E8" reads (3 ∷ 0xE1E2E3E4E5E6E7E8 ∷ [])
    ∷ "04D1D2D3D4D5D6" reads (4 ∷ 0xD1 ∷ 0xD2 ∷ 0xD3D4D5D6 ∷ [])
    ∷ "05C1" reads asks 0xC1
    ∷ "06B0B1B2B3B4B5B6B7B8B9BABBBCBDBEBF" reads (6 ∷ 0xB0B1B2B3B4B5B6B7B8B9BABBBCBDBEBF ∷ [])
    ∷ "07A0A1A2A3A4A5A6A7A8A9AAABACADAEAF" reads (7 ∷ 0xA0A1A2A3A4A5A6A7A8A9AAABACADAEAF ∷ [])
    -- every kind one digit short, one digit long, one byte short, one byte long
    ∷ bad "010102030405060708090A0B0C0D0E0F101112131415161718191A1B1C1D1E1F2021222324252627282"
    ∷ bad "010102030405060708090A0B0C0D0E0F101112131415161718191A1B1C1D1E1F202122232425262728290"
    ∷ bad "010102030405060708090A0B0C0D0E0F101112131415161718191A1B1C1D1E1F202122232425262728"
    ∷ bad "010102030405060708090A0B0C0D0E0F101112131415161718191A1B1C1D1E1F202122232425262728292A"
    ∷ bad "02F0E1D2C3B4A5968778695A4B3C2D1E0"
    ∷ bad "02F0E1D2C3B4A5968778695A4B3C2D1E0F0"
    ∷ bad "02F0E1D2C3B4A5968778695A4B3C2D1E"
    ∷ bad "02F0E1D2C3B4A5968778695A4B3C2D1E0FF9"
    ∷ bad "03E1E2E3E4E5E6E7E"
    ∷ bad "03E1E2E3E4E5E6E7E80"
    ∷ bad "03E1E2E3E4E5E6E7"
    ∷ bad "03E1E2E3E4E5E6E7E8E9"
    ∷ bad "04D1D2D3D4D5D"
    ∷ bad "04D1D2D3D4D5D60"
    ∷ bad "04D1D2D3D4D5"
    ∷ bad "04D1D2D3D4D5D6D7"
    ∷ bad "05C"
    ∷ bad "05C10"
    ∷ bad "05"
    ∷ bad "05C1C2"
    ∷ bad "06B0B1B2B3B4B5B6B7B8B9BABBBCBDBEB"
    ∷ bad "06B0B1B2B3B4B5B6B7B8B9BABBBCBDBEBF0"
    ∷ bad "06B0B1B2B3B4B5B6B7B8B9BABBBCBDBE"
    ∷ bad "06B0B1B2B3B4B5B6B7B8B9BABBBCBDBEBFC0"
    ∷ bad "07A0A1A2A3A4A5A6A7A8A9AAABACADAEA"
    ∷ bad "07A0A1A2A3A4A5A6A7A8A9AAABACADAEAF0"
    ∷ bad "07A0A1A2A3A4A5A6A7A8A9AAABACADAE"
    ∷ bad "07A0A1A2A3A4A5A6A7A8A9AAABACADAEAFB0"
    -- #104: the frames with an id of 64 bits, of all four kinds, are none
    ∷ bad "010102030405060708090A0B0C0D0E0F101112131415161718191A1B1C1D1E1F2021"
    ∷ bad "02F1F2F3F4F5F6F7F8"
    ∷ bad "06B1B2B3B4B5B6B7B8"
    ∷ bad "07A1A2A3A4A5A6A7A8"
    -- kinds that are none, each at a length that is another's; a known kind at another's length; an empty line, one digit
    ∷ bad "000102030405060708090A0B0C0D0E0F101112131415161718191A1B1C1D1E1F20212223242526272829"
    ∷ bad "060102030405060708090A0B0C0D0E0F101112131415161718191A1B1C1D1E1F20212223242526272829"
    ∷ bad "080102030405060708090A0B0C0D0E0F101112131415161718191A1B1C1D1E1F20212223242526272829"
    ∷ bad "00F0E1D2C3B4A5968778695A4B3C2D1E0F"
    ∷ bad "01F0E1D2C3B4A5968778695A4B3C2D1E0F"
    ∷ bad "03F0E1D2C3B4A5968778695A4B3C2D1E0F"
    ∷ bad "04F0E1D2C3B4A5968778695A4B3C2D1E0F"
    ∷ bad "05F0E1D2C3B4A5968778695A4B3C2D1E0F"
    ∷ bad "08F0E1D2C3B4A5968778695A4B3C2D1E0F"
    ∷ bad "00F1F2F3F4F5F6F7F8"
    ∷ bad "01F1F2F3F4F5F6F7F8"
    ∷ bad "04F1F2F3F4F5F6F7F8"
    ∷ bad "05F1F2F3F4F5F6F7F8"
    ∷ bad "08F1F2F3F4F5F6F7F8"
    ∷ bad "03D1D2D3D4D5D6"
    ∷ bad "05D1D2D3D4D5D6"
    ∷ bad "04C1"
    ∷ bad "06C1"
    ∷ bad "07C1"
    ∷ bad "06D1D2D3D4D5D6"
    ∷ bad ""
    ∷ bad "0"
    -- the ends of the digits' ranges and the bytes next to them, as the first digit of a pair and as the second
    ∷ bad "05/0"
    ∷ "0500" reads asks 0x00
    ∷ "0590" reads asks 0x90
    ∷ bad "05:0"
    ∷ bad "05@0"
    ∷ "05A0" reads asks 0xA0
    ∷ "05F0" reads asks 0xF0
    ∷ bad "05G0"
    ∷ bad "05`0"
    ∷ bad "05a0"
    ∷ bad "05f0"
    ∷ bad "050/"
    ∷ "0501" reads asks 0x01
    ∷ "0509" reads asks 0x09
    ∷ bad "050:"
    ∷ bad "050@"
    ∷ "050A" reads asks 0x0A
    ∷ "050F" reads asks 0x0F
    ∷ bad "050G"
    ∷ bad "050`"
    ∷ bad "050a"
    ∷ bad "050f"
    -- spaces, a carriage return, a line feed in the line
    ∷ bad " 0500"
    ∷ bad "0500 "
    ∷ bad "05 0"
    ∷ bad "0500\r"
    ∷ bad "05\n0"
    ∷ []
