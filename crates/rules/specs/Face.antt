-- Frames and image, C hosts: every operation on an image as bytes. It answers, and leaves the image, as the same call by value does.
use Rattle.std.specs.Prelude.{ℕ, ◌+◌, ◌-◌, ◌^◌, ◌/◌, Bool, cond, not, List, [], ◌∷◌, ltb, eqb, length, take, replicate}
use Rattle.rules.specs.declared.Event.{Event}
use Rattle.rules.specs.Lists.{over}
use Rattle.rules.specs.Records.{id_size, no_entry, fresh, pad}
use Rattle.rules.specs.Bytes.{big, flat, record_size, record_bytes}
use Rattle.rules.specs.Refusals.{◌if◌, first_of}
use Rattle.rules.specs.Calls.{Bare, program, event, cancellation, decision, question, Call, bare, set_clock, list, Governor, by_event, by_program, by_none, Value, nothing, code, count, governor, Outcome, record_of, call, counted}
use Rattle.rules.specs.Image.{image_size, image, loaded, imaged}

-- an operation of a C host; its lent bytes stand beside it
pub data Operation : Type 0 where
  makes : Bare → Operation
  sets_clock : (reading : ℕ) → Operation
  lists : Operation

abbrev pub adds_program : (number primacy defaults : ℕ) → Operation
adds_program number primacy defaults = makes (program number primacy defaults)

abbrev pub delivers : Event → Operation
delivers e = makes (event e)

abbrev pub cancels : (id : ℕ) → Operation
cancels id = makes (cancellation id)

-- document 02, #102: hadulmir_opt_out and hadulmir_opt_in
abbrev pub chooses : (id : ℕ) (out : Bool) → Operation
chooses id out = makes (decision id out)

abbrev pub asks : (control : ℕ) → Operation
asks control = makes (question control)

-- the same call by value. A lent list has as many places as its bytes have room for.
abbrev pub as_call : Operation → List ℕ → Call
as_call (makes c) lent = bare c
as_call (sets_clock t) lent = set_clock t lent
as_call lists lent = list (replicate (length lent / record_size) (record_of no_entry))

-- the bytes of the id in an answer, none where it has no id: only the answer to a question may have one
abbrev pub holder_bytes : Governor → List ℕ
holder_bytes (by_event i) = big id_size i
holder_bytes (by_program p) = []
holder_bytes by_none = []

abbrev pub answer_bytes : Value → List ℕ
answer_bytes nothing = []
answer_bytes (code n) = []
answer_bytes (count n) = []
answer_bytes (governor g) = holder_bytes g

-- Numbers given, 13, of a question: the id of a holder does not fit
abbrev pub id_too_long : Value → ℕ → Bool
id_too_long v room = ltb room (length (answer_bytes v))

-- the number that refuses the operation, 0 for none
abbrev pub face_number : List ℕ → List ℕ → Outcome → ℕ
face_number l lent o = first_of (2 if not (imaged l) ∷ o.number if not (eqb o.number 0) ∷ 13 if id_too_long o.value (length lent) ∷ [])

-- an answer as one number: a question's holder is 1, a default 2 and the program, neither 0
abbrev pub shown_governor : Governor → ℕ
shown_governor (by_event i) = 1
shown_governor (by_program p) = 2 + p
shown_governor by_none = 0

abbrev pub shown : Value → ℕ
shown nothing = 0
shown (code n) = n
shown (count n) = n
shown (governor g) = shown_governor g

-- a refusal as one number: the negative of its number, on 32 bits of two's complement
abbrev pub negative : ℕ → ℕ
negative n = 2 ^ 32 - n

-- what the lent bytes hold once the operation was accepted
abbrev pub lent_after : Operation → Outcome → List ℕ → List ℕ
lent_after (makes c) o lent = over (answer_bytes o.value) lent
lent_after (sets_clock t) o lent = o.bytes
lent_after lists o lent = over (flat record_bytes (take (counted o.value) o.records)) lent

-- what an operation returns, and what its image and its lent bytes hold then
pub record FaceOutcome : Type 0 where
  pub returned : ℕ
  pub image : List ℕ
  pub lent : List ℕ

-- THE C FACE: load, act, store; a refused operation leaves every byte
unfoldable pub face : List ℕ → Operation → List ℕ → FaceOutcome
face l op lent =
    let o = call (loaded l) (as_call op lent) in
    let n = face_number l lent o in
    cond (eqb n 0)
    (record { returned = shown o.value; image = image o.state; lent = lent_after op o lent })
    (record { returned = negative n; image = l; lent = lent })

-- the fresh image, into a buffer of its length
unfoldable pub face_fresh : List ℕ → FaceOutcome
face_fresh l =
    cond (eqb (length l) image_size) (record { returned = 0; image = image (pad fresh); lent = [] })
    (record { returned = negative 2; image = l; lent = [] })
