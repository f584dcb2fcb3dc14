-- A frame as bytes and as a line, and the line written over the front of a buffer.
use Rattle.std.specs.Prelude.{ℕ, ◌+◌, ◌/◌, ◌%◌, cond, List, [], ◌∷◌, ◌++◌, leb, ltb, length}
use Rattle.rules.specs.declared.Frame.{Frame}
use Rattle.rules.specs.declared.Frame.TheVariants as frame
use Rattle.rules.specs.Lists.{over}
use Rattle.rules.specs.Records.{id_size, id_number}
use Rattle.rules.specs.Bytes.{big, event_bytes}

-- Frames and image, the upper-case hexadecimal digit of a number below 16
unfoldable pub hex : ℕ → ℕ
hex d = cond (ltb d 10) (d + 48) (d + 55)

-- Frames and image, two upper-case digits for each byte
unfoldable pub hexed : List ℕ → List ℕ
hexed [] = []
hexed (x ∷ xs) = hex (x / 16) ∷ hex (x % 16) ∷ hexed xs

-- Frames and image, the kind of a frame
abbrev pub kind_of : Frame → ℕ
kind_of (frame.Event e) = 1
kind_of (frame.Cancel i) = 2
kind_of (frame.Clock t) = 3
kind_of (frame.Program n p d) = 4
kind_of (frame.Ask c) = 5
kind_of (frame.OptOut i) = 6
kind_of (frame.OptIn i) = 7

-- Frames and image, the fields of a program: number, primacy, defaults
abbrev pub program_fields : (n p d : ℕ) → List ℕ
program_fields n p d = big 1 n ++ (big 1 p ++ big 4 d)

-- Frames and image, the fields of a frame
unfoldable pub field_bytes : Frame → List ℕ
field_bytes (frame.Event e) = event_bytes e
field_bytes (frame.Cancel i) = big id_size (id_number i)
field_bytes (frame.Clock t) = big 8 t
field_bytes (frame.Program n p d) = program_fields n p d
field_bytes (frame.Ask c) = big 1 c
field_bytes (frame.OptOut i) = big id_size (id_number i)
field_bytes (frame.OptIn i) = big id_size (id_number i)

-- Frames and image, the kind and then the fields
unfoldable pub frame_bytes : Frame → List ℕ
frame_bytes f = kind_of f ∷ field_bytes f

-- Frames and image, the line of a frame
unfoldable pub encoded : Frame → List ℕ
encoded f = hexed (frame_bytes f)

-- what the encoder returns and leaves in a buffer: the line's length and the line over the front, or 0 and the buffer as it was if it is too short
unfoldable pub encoded_into : Frame → List ℕ → ℕ × List ℕ
encoded_into f out = cond (leb (length (encoded f)) (length out)) (length (encoded f), over (encoded f) out) (0, out)
