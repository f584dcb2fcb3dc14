-- The worked example: what the program reads and what it writes, as bytes.
use Rattle.std.specs.Prelude.{ℕ, List, [], ◌∷◌}
use Rattle.rules.specs.Ascii.{lines}

-- Frames and image, the example: its lines, and document 02, #104: with eight zero bytes before each id
unfoldable pub example_input : List ℕ
example_input =
    lines (
    "04000100000001"
    ∷ "030000000000000FA0"
    ∷ "010000000000000000000000000000000100000000010000006400001388000002580000000000000000"
    ∷ "01000000000000000000000000000000020000000001000000C8000014B40000003C0000000000000000"
    ∷ "030000000000001770"
    ∷ "0500"
    ∷ []
    )

-- Frames and image, the example: what is written for them
unfoldable pub example_output : List ℕ
example_output =
    lines (
    "4000 1 1"
    ∷ "4000 2 1"
    ∷ "5000 1 2"
    ∷ "5300 1 7"
    ∷ "5300 2 2"
    ∷ "5360 2 3"
    ∷ "0 default 0"
    ∷ []
    )
