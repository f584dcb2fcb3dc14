-- A line acted on, and a run over many lines.
use Rattle.std.specs.Prelude.{◌≡◌, ℕ, suc, ◌+◌, ◌-◌, cond, List, [], ◌∷◌, ◌++◌, leb, length, take, drop}
use Rattle.rules.specs.declared.Schedule.{Schedule}
use Rattle.rules.specs.declared.Frame.{Frame}
use Rattle.rules.specs.declared.Line.{Line}
use Rattle.rules.specs.declared.Line.TheVariants.{Good, Bad}
use Rattle.rules.specs.Lists.{over}
use Rattle.rules.specs.Sound.{sound}
use Rattle.rules.specs.Calls.{Call, bare, set_clock, list, Value, nothing, count, Outcome, number_of, value_of, call}
use Rattle.rules.specs.Frames.{line_of, frame_call}
use Rattle.rules.specs.Printed.{tell}
use Rattle.frame.specs.Ends.{ended_of, up_to}
use Rattle.text.specs.Texts.{most_text}
use Rattle.calls.specs.declared.Ran as declared
use Rattle.calls.specs.declared.lines.NextLine.{NextLine}

-- a buffer that stands ready after a call: only a call that is lent it writes to it
abbrev pub buffer_after : Call → Outcome → List ℕ → List ℕ
buffer_after (bare c) o b = b
buffer_after (set_clock t lent) o b = o.bytes
buffer_after (list r) o b = b

-- Frames and image, a frame: what its call gives and leaves, with the buffer that is lent for rows
unfoldable pub frame_outcome : Schedule → Frame → List ℕ → Outcome
frame_outcome s f b =
    let c = frame_call f b in
    let o = call s c in
    record { number = o.number; value = o.value; state = o.state; bytes = buffer_after c o b; records = [] }

-- Numbers given, 1: a line that is no frame is refused before anything else
abbrev pub decoded_outcome : Schedule → Line → List ℕ → Outcome
decoded_outcome s (Good f) b = frame_outcome s f b
decoded_outcome s Bad b = record { number = 1; value = nothing; state = s; bytes = b; records = [] }

-- A LINE ACTED ON
unfoldable pub line_outcome : Schedule → List ℕ → List ℕ → Outcome
line_outcome s l b = decoded_outcome s (line_of l) b

-- the line that begins at `from`: where it ends, and what it stands for
pub record IsNext (text : List ℕ) (from : ℕ) (r : NextLine) : Type 0 where
  pub end : r.end ≡ from + up_to (drop from text)
  pub line : r.line ≡ line_of (take (r.end - from) (drop from text))

-- what a run leaves: the schedule, how many bytes of the lines it took, and what it wrote
pub record Run : Type 0 where
  pub state : Schedule
  pub read : ℕ
  pub text : List ℕ

-- lines one after the other, each with its line feed, as long as there is room for any text
unfoldable pub runs : ℕ → Schedule → List (List ℕ) → Run
runs room s [] = record { state = s; read = 0; text = [] }
runs room s (l ∷ ls) =
    let o = tell s l in
    let rest = runs (room - length o.text) o.state ls in
    cond (leb most_text room)
    (record { state = rest.state; read = suc (length l) + rest.read; text = o.text ++ rest.text })
    (record { state = s; read = 0; text = [] })

-- what a run gives and leaves: number, how many bytes it wrote, the schedule, how many bytes it read, the lent buffer
pub record RunOutcome : Type 0 where
  pub number : ℕ
  pub value : Value
  pub state : Schedule
  pub read : ℕ
  pub bytes : List ℕ

abbrev pub ran_of : declared.Ran → List ℕ → RunOutcome
ran_of r bytes = record { number = number_of r.answer; value = value_of r.answer; state = r.schedule; read = r.read; bytes = bytes }

abbrev pub ran_into : Run → List ℕ → RunOutcome
ran_into r out = record { number = 0; value = count (length r.text); state = r.state; read = r.read; bytes = over r.text out }

-- A RUN OVER LINES: 2 for a schedule that breaks a rule
unfoldable pub run_outcome : Schedule → List ℕ → List ℕ → RunOutcome
run_outcome s lines out =
    cond (sound s) (ran_into (runs (length out) s (ended_of lines)) out)
    (record { number = 2; value = nothing; state = s; read = 0; bytes = out })
