-- What is read from bytes, and what is written into a buffer.
use Rattle.std.specs.Prelude.{ℕ, ◌+◌, ◌*◌, ◌≤◌, ◌<◌, Bool, true, false, cond, List, Result, Ok, Err, leb, eqb, length}
use Rattle.rules.specs.declared.Record.{Record}
use Rattle.rules.specs.declared.Schedule.{Schedule}
use Rattle.rules.specs.Lists.{over_at}
use Rattle.rules.specs.Records.{fresh, pad}
use Rattle.rules.specs.Bytes.{entry_size, record_size, record_bytes}
use Rattle.rules.specs.Image.{image_size, image, loaded, formed}

-- n marks or choices, k bytes from one to the next, stand in a list from `at` on
pub record MarksInside (k n at : ℕ) (l : List ℕ) : Type 0 where
  pub step : k ≤ entry_size
  pub last : at + k * n < length l + k

-- Frames and image, the schedule of an image that keeps its length, its marks and the bits of its choices, whatever else it says; of other bytes the fresh schedule
unfoldable pub read_of : List ℕ → Result Schedule Schedule
read_of l = cond (formed l) (Ok (loaded l)) (Err (pad fresh))

-- Frames and image, the image in a buffer of its length; any other buffer as it was
unfoldable pub written_to : Schedule → List ℕ → Bool × List ℕ
written_to s l = cond (eqb (length l) image_size) (true, image s) (false, l)

-- Calls, list, the bytes of a listed record over what stands there, if there is room for them all
unfoldable pub put_record : ℕ → Record → List ℕ → List ℕ
put_record at r l = cond (leb (at + record_size) (length l)) (over_at at (record_bytes r) l) l
