-- Frames and image: what load, store and the operations of a C host return and leave behind.
use Rattle.std.specs.Prelude.{◌≡◌, ℕ, ◌≤◌, cond, ◌&&◌, List, eqb, length, Result, Ok, Err, Option, Some, None}
use Rattle.rules.specs.declared.Schedule.{Schedule}
use Rattle.rules.specs.declared.Id.{Id}
use Rattle.rules.specs.declared.Refusal.{Refusal}
use Rattle.rules.specs.declared.Refusal.TheVariants.{BrokenRule}
use Rattle.rules.specs.declared.Reply.{Reply}
use Rattle.rules.specs.declared.Reply.TheVariants.{Code, Count, Holder, Default, Nobody}
use Rattle.rules.specs.Records.{most_rows, fresh, pad}
use Rattle.rules.specs.Sound.{sound}
use Rattle.rules.specs.Image.{image_size, image, loaded, imaged}
use Rattle.rules.specs.Calls.{number_of, value_of, counted}
use Rattle.rules.specs.Face.{shown, negative, FaceOutcome}
use Rattle.calls.specs.declared.Answered.{Answered}
use Rattle.hadulmir.specs.declared.Opened.{Opened}

-- 2 and the fresh schedule
abbrev pub no_image : Opened
no_image = record { answer = Err BrokenRule; schedule = pad fresh }

-- the schedule of an image that keeps every rule; else 2 and the fresh schedule
unfoldable pub load_outcome : List ℕ → Opened
load_outcome l = cond (imaged l) (record { answer = Ok (Code 0); schedule = loaded l }) no_image

-- the image of a schedule that keeps every rule, in a buffer of its length; else 2 and the buffer as it came
unfoldable pub store_outcome : Schedule → List ℕ → Result Reply Refusal × List ℕ
store_outcome s l = cond (sound s && eqb (length l) image_size) (Ok (Code 0), image s) (Err BrokenRule, l)

-- what an operation of a C host returned, and what its image and its lent bytes held then
abbrev pub face_of : ℕ → List ℕ → List ℕ → FaceOutcome
face_of r l lent = record { returned = r; image = l; lent = lent }

-- an answer that counts no more rows than there can be, and a buffer of an image's length
pub record MayStore (a : Result Reply Refusal) (image : List ℕ) : Type 0 where
  pub few : counted (value_of a) ≤ most_rows
  pub size : length image ≡ image_size

-- the event that an answer names, if it names one
abbrev pub holder_of : Result Reply Refusal → Option Id
holder_of (Ok (Code k)) = None
holder_of (Ok (Count n)) = None
holder_of (Ok (Holder i)) = Some i
holder_of (Ok (Default p)) = None
holder_of (Ok Nobody) = None
holder_of (Err e) = None

-- an answer as one number, a refusal as its negative
unfoldable pub returned_for : Result Reply Refusal → ℕ
returned_for a = cond (eqb (number_of a) 0) (shown (value_of a)) (negative (number_of a))

-- the same of a call's answer, beside the image: stored if the call was accepted, else as it came
unfoldable pub finished : Answered → List ℕ → ℕ × List ℕ
finished a l = (returned_for a.answer, cond (eqb (number_of a.answer) 0) (image a.schedule) l)
