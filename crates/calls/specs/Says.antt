-- What a frame and a line leave in a schedule and in buffers.
use Rattle.std.specs.Prelude.{◌≡◌, ℕ, List, length, Result}
use Rattle.rules.specs.declared.Refusal.{Refusal}
use Rattle.rules.specs.declared.Reply.{Reply}
use Rattle.rules.specs.declared.Schedule.{Schedule}
use Rattle.rules.specs.declared.Frame.{Frame}
use Rattle.rules.specs.declared.Line.{Line}
use Rattle.rules.specs.Bytes.{rows_size}
use Rattle.rules.specs.Calls.{Outcome, number_of, value_of, call}
use Rattle.rules.specs.Frames.{frame_call}
use Rattle.rules.specs.Printed.{room, frame_text, tell_line}
use Rattle.text.specs.Texts.{Stands}

-- the call of a frame: number, value and schedule are its call's, and the text that is read off the buffer is the same
pub record ActsOn (s : Schedule) (f : Frame) (a : Result Reply Refusal) (next : Schedule) (rows : List ℕ) : Type 0 where
  pub long : length rows ≡ rows_size
  pub number : number_of a ≡ (call s (frame_call f room)).number
  pub value : value_of a ≡ (call s (frame_call f room)).value
  pub state : next ≡ (call s (frame_call f room)).state
  pub text : (clock : ℕ) (o : Outcome) → o.value ≡ value_of a → o.bytes ≡ rows → frame_text clock f o ≡ frame_text clock f (call s (frame_call f room))

-- a line, by what it stands for: the schedule, and its text in the buffer from `at` up to `behind`
pub record Says (s : Schedule) (line : Line) (old : List ℕ) (at behind : ℕ) (next : Schedule) (rows new : List ℕ) : Type 0 where
  pub long : length rows ≡ rows_size
  pub state : next ≡ (tell_line s line).state
  pub text : Stands old at (tell_line s line).text new behind
