-- Document 02, #105: a line turned where it stands in a text, lines one after the other, and a piece of the input.
use Rattle.std.specs.Prelude.{◌≡◌, ℕ, ◌+◌, ◌<◌, ◌≤◌, cond, List, [], ◌++◌, eqb, length, take, drop, Result, Ok, Err}
use Rattle.rules.specs.declared.Refusal.{Refusal}
use Rattle.rules.specs.declared.Reply.{Reply}
use Rattle.rules.specs.Calls.{reply_value, value_of, counted}
use Rattle.rules.specs.Bytes.{flat}
use Rattle.rules.specs.Printed.{lines_of, line_feed, refused_text}
use Rattle.rules.specs.Converted.{turned_text, converted}
use Rattle.frame.specs.declared.Width.{Width}
use Rattle.frame.specs.Decoded.{longest_line}
use Rattle.frame.specs.Ends.{ended_of, up_to}
use Rattle.text.specs.Texts.{Stands}
use Rattle.convert.specs.Turns.{turned_to}
use Rattle.converter.specs.declared.Told.{Told}
use Rattle.converter.specs.declared.Printed.{Printed}

-- no line's text is longer: a turned line and its line feed
abbrev pub most_turned : ℕ
most_turned = longest_line + 1

-- what is written for lines
abbrev pub texts_of : Width → List (List ℕ) → List ℕ
texts_of to ls = flat (λ l. turned_text (turned_to to l)) ls

-- what ends a line's text, and where: the line feed behind a turned line, or the text of its refusal
abbrev pub end_text : (number : ℕ) → List ℕ
end_text number = cond (eqb number 0) line_feed (refused_text number)

abbrev pub end_at : Result Reply Refusal → ℕ → ℕ
end_at (Ok reply) at = at + counted (reply_value reply)
end_at (Err refusal) at = at

-- the line that was turned is no longer than one can be, and there is room for any text
pub record CanEnd (turned : Result Reply Refusal) (at : ℕ) (out : List ℕ) : Type 0 where
  pub short : counted (value_of turned) ≤ longest_line
  pub room : at + most_turned ≤ length out

-- where the first line ends, if it has ended, and its text stands in the buffer
pub record Tells (to : Width) (text old : List ℕ) (at : ℕ) (new : List ℕ) (r : Told) : Type 0 where
  pub within : r.end < length text
  pub end : r.end ≡ up_to text
  pub stands : Stands old at (turned_text (turned_to to (take r.end text))) new r.behind

-- the first line has not ended, and what stands in the buffer before `at` is as it was
pub record Unended (text old : List ℕ) (at : ℕ) (new : List ℕ) : Type 0 where
  pub past : length text ≤ up_to text
  pub front : take at new ≡ take at old

-- lines from the front of a piece are done, and those behind them are as they were
pub record Takes (piece : List ℕ) (read : ℕ) (done : List (List ℕ)) : Type 0 where
  pub within : read ≤ length piece
  pub ended : ended_of piece ≡ done ++ ended_of (drop read piece)
  pub lines : (after : List ℕ) → lines_of (piece ++ after) ≡ done ++ lines_of (drop read piece ++ after)

-- bytes of a block of output
abbrev pub block_size : ℕ
block_size = 65536

-- fewer bytes than a block stand at the front of a buffer and are still to be written, and there is room for a block and any text
pub record CanPrint (pending : ℕ) (out : List ℕ) : Type 0 where
  pub few : pending < block_size
  pub room : block_size + most_turned ≤ length out

-- what turning some lines leaves: their texts behind those that were still to be written; a block of these, or no line that has ended
pub record PrintsSome (to : Width) (piece : List ℕ) (pending : ℕ) (old : List ℕ) (r : Printed) (new : List ℕ) : Type 0 where
  pub done : List (List ℕ)
  pub takes : Takes piece r.read done
  pub fits : r.pending < block_size + most_turned
  pub texts : take r.pending new ≡ take pending old ++ texts_of to done
  pub some : block_size ≤ r.pending → 0 < r.read
  pub all : r.pending < block_size → ended_of (drop r.read piece) ≡ []

-- what printing leaves, if all blocks could be written: no line that has ended, texts of which blocks were written and the end is still to be written, and what is written for the rest
-- comes behind them
pub record Leaves (to : Width) (piece old new : List ℕ) (read : ℕ) : Type 0 where
  pub within : read ≤ length piece
  pub blocks : List ℕ
  pub texts : blocks ++ new ≡ old ++ texts_of to (ended_of piece)
  pub none_left : ended_of (drop read piece) ≡ []
  pub goes_on : (after : List ℕ) → converted (turned_to to) (piece ++ after) ≡ texts_of to (ended_of piece) ++ converted (turned_to to) (drop read piece ++ after)
