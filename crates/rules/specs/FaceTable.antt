-- The C face: what each operation returns and leaves in the lent bytes, on both sides of each length.
use Rattle.std.specs.Prelude.{◌≡◌, ℕ, ◌-◌, Bool, true, false, ◌&&◌, List, [], ◌∷◌, ◌++◌, eqb, replicate}
use Rattle.rules.specs.declared.Event.{Event}
use Rattle.rules.specs.Lists.{over_at, All}
use Rattle.rules.specs.Records.{fresh, pad, event_of}
use Rattle.rules.specs.Calls.{Call, add_program, deliver, cancel, opt_out, set_clock, run}
use Rattle.rules.specs.Image.{loaded, imaged}
use Rattle.rules.specs.Face.{Operation, adds_program, delivers, cancels, chooses, sets_clock, asks, lists, FaceOutcome, face, face_fresh}
use Rattle.rules.specs.Marks.{same}

-- an operation after calls by value: what is lent to it, what it returns, what the lent bytes hold then
pub record FaceCase : Type 0 where
  pub before : List Call
  pub operation : Operation
  pub lent : List ℕ
  pub returned : ℕ
  pub after : List ℕ

-- so it is with every image of the schedule after these calls
pub record FaceHolds (c : FaceCase) : Type 0 where
  pub returned : (l : List ℕ) → imaged l ≡ true → loaded l ≡ run (pad fresh) c.before → (face l c.operation c.lent).returned ≡ c.returned
  pub lent : (l : List ℕ) → imaged l ≡ true → loaded l ≡ run (pad fresh) c.before → (face l c.operation c.lent).lent ≡ c.after

-- the id of an event, and another that agrees with it in its lower half
abbrev one_id : ℕ
one_id = 0x0102030405060708090A0B0C0D0E0F10

abbrev two_id : ℕ
two_id = 0x1112131415161718090A0B0C0D0E0F10

-- an event whose bytes can be told apart: from 5000 to 5100 on controls 0 and 1; its randomizeStart is -2, so that it might begin at 4998
abbrev one : Event
one = event_of one_id 7 0x03 0x0A0B0C0D 5000 100 0xFFFE 2 0 0

-- another on control 2, under a larger id: drawn from 6000 to 6005
abbrev two : Event
two = event_of two_id 0 0x04 0 6000 100 5 0 5 0

-- their records at 5000: the user in for that second, and out of the event to come
abbrev one_bytes : List ℕ
one_bytes =
    1 ∷ 2 ∷ 3 ∷ 4 ∷ 5 ∷ 6 ∷ 7 ∷ 8 ∷ 9 ∷ 0x0A ∷ 0x0B ∷ 0x0C ∷ 0x0D ∷ 0x0E ∷ 0x0F ∷ 0x10 ∷ 7 ∷ 0 ∷ 0 ∷ 0 ∷ 3 ∷ 0x0A ∷ 0x0B ∷ 0x0C ∷ 0x0D ∷ 0 ∷ 0 ∷ 0x13 ∷ 0x88 ∷ 0 ∷ 0 ∷ 0 ∷ 100
    ∷ 0xFF ∷ 0xFE ∷ 0 ∷ 2 ∷ 0 ∷ 0 ∷ 0 ∷ 0 ∷ 0 ∷ 0 ∷ 0 ∷ 0 ∷ 0 ∷ 0 ∷ 0x13 ∷ 0x88 ∷ 0 ∷ 0 ∷ 0 ∷ 3 ∷ 0 ∷ 2
    ∷ 0 ∷ 0 ∷ 0 ∷ 0 ∷ 0 ∷ 0 ∷ 0x13 ∷ 0x86 ∷ []

abbrev two_bytes : List ℕ
two_bytes =
    0x11 ∷ 0x12 ∷ 0x13 ∷ 0x14 ∷ 0x15 ∷ 0x16 ∷ 0x17 ∷ 0x18 ∷ 9 ∷ 0x0A ∷ 0x0B ∷ 0x0C ∷ 0x0D ∷ 0x0E ∷ 0x0F ∷ 0x10 ∷ 0 ∷ 0 ∷ 0 ∷ 0 ∷ 4 ∷ 0 ∷ 0 ∷ 0 ∷ 0 ∷ 0 ∷ 0 ∷ 0x17 ∷ 0x70 ∷ 0 ∷ 0 ∷ 0 ∷ 100
    ∷ 0 ∷ 5 ∷ 0 ∷ 0 ∷ 0 ∷ 5 ∷ 0 ∷ 0 ∷ 0 ∷ 0 ∷ 0 ∷ 0 ∷ 0 ∷ 0 ∷ 0x17 ∷ 0x75 ∷ 0 ∷ 0 ∷ 0 ∷ 0 ∷ 0 ∷ 1
    ∷ 0 ∷ 0 ∷ 0 ∷ 0 ∷ 0 ∷ 0 ∷ 0x17 ∷ 0x70 ∷ []

-- a row: time 5000, the id of `one`, code 2
abbrev start_row : List ℕ
start_row = 0 ∷ 0 ∷ 0 ∷ 0 ∷ 0 ∷ 0 ∷ 0x13 ∷ 0x88 ∷ 1 ∷ 2 ∷ 3 ∷ 4 ∷ 5 ∷ 6 ∷ 7 ∷ 8 ∷ 9 ∷ 0x0A ∷ 0x0B ∷ 0x0C ∷ 0x0D ∷ 0x0E ∷ 0x0F ∷ 0x10 ∷ 2 ∷ []

-- lent bytes, as they came in
abbrev room : ℕ → List ℕ
room n = replicate n 77

-- program 0 has a default for control 8, program 7 for control 9
abbrev programs : List Call
programs = add_program 0 0 0x100 ∷ add_program 7 1 0x200 ∷ []

abbrev told : List Call
told = programs ++ (deliver one ∷ [])

abbrev begun : List Call
begun = told ++ (set_clock 5000 (replicate 25 0) ∷ [])

abbrev out : List Call
out = begun ++ (opt_out one_id ∷ [])

abbrev both : List Call
both = begun ++ (deliver two ∷ opt_out two_id ∷ [])

-- after, operation, lent, returned, what is lent then
abbrev case : List Call → Operation → List ℕ → ℕ → List ℕ → FaceCase
case before op lent returned after = record { before = before; operation = op; lent = lent; returned = returned; after = after }

-- an operation that leaves the lent bytes
abbrev leaves : List Call → Operation → List ℕ → ℕ → FaceCase
leaves before op lent returned = case before op lent returned lent

-- -n on 32 bits
abbrev minus : ℕ → ℕ
minus n = 4294967296 - n

unfoldable pub face_table : List FaceCase
face_table =
    -- a program
    leaves [] (adds_program 7 1 0x200) [] 0
    ∷ leaves [] (adds_program 7 1 0x200) (room 3) 0
    ∷ leaves [] (adds_program 8 1 0x200) [] (minus 3)
    ∷ leaves programs (adds_program 7 1 0x200) [] (minus 4)
    ∷ leaves programs (adds_program 6 3 0x200) (room 3) (minus 5)
    -- an event: new, again, refused
    ∷ leaves programs (delivers one) [] 1
    ∷ leaves programs (delivers one) (room 3) 1
    ∷ leaves told (delivers one) [] 0
    ∷ leaves [] (delivers one) (room 3) (minus 6)
    -- a cancellation: the first, another, of an id that is not held
    ∷ leaves told (cancels one_id) [] 6
    ∷ leaves told (cancels one_id) (room 3) 6
    ∷ leaves (told ++ (cancel one_id ∷ [])) (cancels one_id) [] 0
    ∷ leaves told (cancels 1) (room 3) (minus 11)
    ∷ leaves told (cancels two_id) (room 3) (minus 11)
    -- #102: a choice, one that repeats it, an id that is not held; then a question about what the event holds
    ∷ leaves told (chooses one_id true) [] 4
    ∷ leaves told (chooses one_id true) (room 3) 4
    ∷ leaves told (chooses one_id false) [] 0
    ∷ leaves out (chooses one_id false) (room 3) 5
    ∷ leaves out (chooses one_id true) [] 0
    ∷ leaves told (chooses 1 true) (room 3) (minus 11)
    ∷ leaves told (chooses 1 false) [] (minus 11)
    ∷ leaves out (asks 0) (room 9) 0
    ∷ leaves out (asks 8) [] 2
    -- a reading: without a row, with a row in 24, 25 and 26 bytes, before the clock
    ∷ leaves told (sets_clock 4999) [] 0
    ∷ leaves told (sets_clock 5000) (room 24) (minus 13)
    ∷ case told (sets_clock 5000) (room 25) 1 start_row
    ∷ case told (sets_clock 5000) (room 26) 1 (start_row ++ room 1)
    ∷ leaves begun (sets_clock 4999) (room 25) (minus 12)
    -- a question: the holder's id in 8, 15, 16 and 17 bytes; a default and nobody in no byte; a control that is none
    ∷ leaves begun (asks 0) [] (minus 13)
    ∷ leaves begun (asks 0) (room 8) (minus 13)
    ∷ leaves begun (asks 0) (room 15) (minus 13)
    ∷ case begun (asks 0) (room 16) 1 (1 ∷ 2 ∷ 3 ∷ 4 ∷ 5 ∷ 6 ∷ 7 ∷ 8 ∷ 9 ∷ 0x0A ∷ 0x0B ∷ 0x0C ∷ 0x0D ∷ 0x0E ∷ 0x0F ∷ 0x10 ∷ [])
    ∷ case begun (asks 1) (room 17) 1 (1 ∷ 2 ∷ 3 ∷ 4 ∷ 5 ∷ 6 ∷ 7 ∷ 8 ∷ 9 ∷ 0x0A ∷ 0x0B ∷ 0x0C ∷ 0x0D ∷ 0x0E ∷ 0x0F ∷ 0x10 ∷ 77 ∷ [])
    ∷ leaves begun (asks 8) [] 2
    ∷ leaves begun (asks 9) (room 9) 9
    ∷ leaves begun (asks 2) [] 0
    ∷ leaves begun (asks 31) (room 9) 0
    ∷ leaves begun (asks 32) [] (minus 14)
    -- a listing: of nothing, of one record in 55, 62, 63 and 64 bytes, of two in 125, 126 and 127
    ∷ leaves programs lists [] 0
    ∷ leaves programs lists (room 3) 0
    ∷ leaves begun lists (room 55) (minus 13)
    ∷ leaves begun lists (room 62) (minus 13)
    ∷ case begun lists (room 63) 1 one_bytes
    ∷ case begun lists (room 64) 1 (one_bytes ++ room 1)
    ∷ leaves both lists (room 125) (minus 13)
    ∷ case both lists (room 126) 2 (one_bytes ++ two_bytes)
    ∷ case both lists (room 127) 2 (one_bytes ++ (two_bytes ++ room 1))
    ∷ []

-- Images that are none: the wrong length, a count of 49. Number 2 stands before every other, and nothing changes. And the fresh image, into 2,696, 2,697 and 2,698 bytes.

abbrev is : FaceOutcome → ℕ → List ℕ → List ℕ → Bool
is o returned image lent = eqb o.returned returned && same o.image image && same o.lent lent

-- whether an operation on such bytes is refused with 2
abbrev refuses : List ℕ → Operation → Bool
refuses l op = is (face l op (room 9)) (minus 2) l (room 9)

abbrev short : List ℕ
short = replicate 2696 0

abbrev overfull : List ℕ
overfull = over_at 8 (49 ∷ []) (replicate 2697 0)

unfoldable pub no_image : Bool
no_image =
    refuses short (adds_program 8 1 0)
    && refuses short (delivers one)
    && refuses short (cancels 1)
    && refuses short (chooses 1 true)
    && refuses short (chooses 1 false)
    && refuses short (sets_clock 9000000001)
    && refuses short (asks 32)
    && refuses short lists
    && refuses overfull (asks 0)
    && is (face_fresh (room 2696)) (minus 2) (room 2696) []
    && is (face_fresh (room 2697)) 0 (replicate 2697 0) []
    && is (face_fresh (room 2698)) (minus 2) (room 2698) []

pub record FaceTables : Type 0 where
  -- each operation, on every image of its schedule
  pub cases : All FaceHolds face_table
  -- bytes that are no image, and the fresh image
  pub is_no_image : no_image ≡ true
