-- Texts written into a buffer, one behind the other.
use Rattle.std.specs.Prelude.{◌≡◌, ℕ, zero, suc, ◌+◌, ◌*◌, ◌/◌, ◌%◌, ◌^◌, ◌≤◌, ◌<◌, max, cond, List, [], ◌∷◌, ◌++◌, leb, length, Result, Ok, Err}
use Rattle.rules.specs.declared.Reply.{Reply}
use Rattle.rules.specs.Lists.{over_at}
use Rattle.rules.specs.Records.{most_rows, halves}
use Rattle.rules.specs.Bytes.{row_size, rows_size}
use Rattle.rules.specs.Printed.{most_digits, most_id_digits}
use Rattle.text.specs.declared.writing.Divided.{Divided}
use Rattle.text.specs.declared.writing.Text.{Text}

-- a text stands in a buffer from `at` on, and `behind` is the place behind it
pub record Stands (old : List ℕ) (at : ℕ) (text new : List ℕ) (behind : ℕ) : Type 0 where
  pub end : behind ≡ at + length text
  pub is : new ≡ over_at at text old

-- a text has been added in a buffer behind what was there
pub record Adds (old : Text) (text : List ℕ) (new : Text) : Type 0 where
  pub stands : Stands old.out.now old.at text new.out.now new.at
  pub buffer : new.out.ghost_name ≡ old.out.ghost_name
  pub size : length new.out.now ≡ length old.out.now

-- there is room for n bytes more
abbrev pub HasRoom : ℕ → Text → Type 0
HasRoom n t = t.at + n ≤ length t.out.now

-- the last n decimal digits of a number, zeros too
unfoldable pub padded : ℕ → ℕ → List ℕ
padded zero x = []
padded (suc n) x = padded n (x / 10) ++ ((48 + x % 10) ∷ [])

-- a number, and an id, with the byte behind it
abbrev pub most_number : ℕ
most_number = most_digits + 1

abbrev pub most_id : ℕ
most_id = most_id_digits + 1

-- no refusal, no answer to a question and no row has a longer text: a refusal begins with a word of 8 bytes, and an answer has a control and then at most 8 bytes more before
-- its number or id
abbrev pub most_refused : ℕ
most_refused = 8 + most_number

abbrev pub most_ask : ℕ
most_ask = most_number + 8 + max most_number most_id

abbrev pub most_row : ℕ
most_row = most_number + most_id + most_number

-- no line's text is longer: as many rows as there can be
abbrev pub most_text : ℕ
most_text = most_rows * most_row

-- a number has at most n digits, and there is room for n
pub record DigitsFit (n x : ℕ) (t : Text) : Type 0 where
  pub below : x < 10 ^ n
  pub room : HasRoom n t

-- a number of two halves divided by 10 ^ 8: the halves of the front, of which the upper is the number's upper half divided, and the last eight digits
pub record Divides (high low : ℕ) (r : Divided) : Type 0 where
  pub front : halves r.high r.low ≡ halves high low / 10 ^ 8
  pub rest : r.rest ≡ halves high low % 10 ^ 8
  pub upper : r.high ≡ high / 10 ^ 8

-- so many rows stand in a buffer from a place on, and there is room for their text
pub record RowsFit (from count : ℕ) (rows : List ℕ) (t : Text) : Type 0 where
  pub there : from + row_size * count ≤ length rows
  pub room : HasRoom (most_row * count) t

-- there is room for any text, and rows are counted in a buffer of all that there can be
pub record LineFits (t : Text) (rows : List ℕ) (count : ℕ) : Type 0 where
  pub room : HasRoom most_text t
  pub there : length rows ≡ rows_size
  pub few : count ≤ most_rows

-- the number that a call was refused with, 0 if it was not
abbrev pub number_told : Result Reply ℕ → ℕ
number_told (Ok reply) = 0
number_told (Err n) = n

-- a text, if a buffer has room for `most` bytes from `at` on
abbrev pub if_room : ℕ → ℕ → List ℕ → List ℕ → List ℕ
if_room most at out text = cond (leb (at + most) (length out)) text []
