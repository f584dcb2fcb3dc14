-- A whole text, run after run: together the runs write what the program has to write for it (`output`), wherever the text is cut and whatever room each run has.
use Rattle.std.specs.Prelude.{◌≡◌, ℕ, ◌+◌, ◌≤◌, true, List, [], ◌∷◌, ◌++◌, length, take, drop}
use Rattle.rules.specs.declared.Schedule.{Schedule}
use Rattle.rules.specs.Records.{fresh, pad}
use Rattle.rules.specs.Lists.{over}
use Rattle.rules.specs.Sound.{sound}
use Rattle.rules.specs.Calls.{count, counted}
use Rattle.rules.specs.Printed.{lines_of, line_feed, tell, tell_all, output}
use Rattle.rules.specs.Example.{example_input, example_output}
use Rattle.frame.specs.Decoded.{longest_line}
use Rattle.text.specs.Texts.{most_text}
use Rattle.frame.specs.Ends.{ended_of}
use Rattle.calls.specs.Lines.{RunOutcome, run_outcome}

-- what a run wrote: as many bytes as it says, from the front of the lent buffer
abbrev pub wrote : RunOutcome → List ℕ
wrote r = take (counted r.value) r.bytes

-- the schedule that lines leave, one after the other
unfoldable pub after_lines : Schedule → List (List ℕ) → Schedule
after_lines s [] = s
after_lines s (l ∷ ls) = after_lines (tell s l).state ls

-- the last byte of a text that stands behind the byte b
unfoldable pub last_byte : ℕ → List ℕ → ℕ
last_byte b [] = b
last_byte b (c ∷ t) = last_byte c t

-- every line of a text has ended: its last byte is a line feed, or it is empty
abbrev pub Ended : List ℕ → Type 0
Ended t = last_byte 10 t ≡ 10

-- what is written for a text and all that follows it: first for the lines of the text that have ended, then, from the schedule `next` on, for the bytes `left` and all that follows
abbrev pub TextGoesOn : Schedule → List ℕ → Schedule → List ℕ → Type 0
TextGoesOn s t next left = (after : List ℕ) → tell_all s (lines_of (t ++ after)) ≡ tell_all s (ended_of t) ++ tell_all next (lines_of (left ++ after))

-- one run of a host: the bytes that came in since the last, and the buffer that is lent
pub record Turn : Type 0 where
  pub new : List ℕ
  pub out : List ℕ

-- all bytes that came in
abbrev pub came_in : List Turn → List ℕ
came_in [] = []
came_in (x ∷ xs) = x.new ++ came_in xs

-- what runs leave: the schedule, the bytes that they did not take, and what they wrote
pub record Turned : Type 0 where
  pub state : Schedule
  pub left : List ℕ
  pub text : List ℕ

-- runs one after the other, each over what the last one left and what came in since
unfoldable pub turns : Schedule → List ℕ → List Turn → Turned
turns s left [] = record { state = s; left = left; text = [] }
turns s left (x ∷ xs) =
    let r = run_outcome s (left ++ x.new) x.out in
    let rest = turns r.state (drop r.read (left ++ x.new)) xs in
    record { state = rest.state; left = rest.left; text = wrote r ++ rest.text }

-- Frames and image, the program: `run` over a whole text
pub record WholeText : Type 0 where
  -- what is written for a text and all that follows it is what a run over the text wrote, and then what is written for what the run left and all that follows
  pub step : (s : Schedule) (t out after : List ℕ)
      → tell_all s (lines_of (t ++ after))
      ≡ wrote (run_outcome s t out) ++ tell_all (run_outcome s t out).state (lines_of (drop (run_outcome s t out).read t ++ after))
  -- and so of the lines of the text that have ended
  pub ended_step : (s : Schedule) (t out : List ℕ)
      → tell_all s (ended_of t) ≡ wrote (run_outcome s t out) ++ tell_all (run_outcome s t out).state (ended_of (drop (run_outcome s t out).read t))
  -- a run on a sound schedule is not refused, and leaves a sound one
  pub accepted : (s : Schedule) → sound s ≡ true → (t out : List ℕ) → ((run_outcome s t out).number ≡ 0) × (sound (run_outcome s t out).state ≡ true)
  -- with room for any text it takes a line if one has ended
  pub moves : (s : Schedule) → sound s ≡ true → (t out : List ℕ) → most_text ≤ length out → (run_outcome s t out).read ≡ 0 → ended_of t ≡ []
  -- with room for the texts of all lines that have ended and one more it writes them all, and leaves no line that has ended
  pub takes_all : (s : Schedule) → sound s ≡ true → (t out : List ℕ) → length (tell_all s (ended_of t)) + most_text ≤ length out
      → (wrote (run_outcome s t out) ≡ tell_all s (ended_of t)) × (ended_of (drop (run_outcome s t out).read t) ≡ [])
  -- so runs one after the other from the fresh schedule, wherever what comes in is cut and whatever room each has, write the output of all that came in, up to what they left
  pub in_turn : (xs : List Turn) → let r = turns (pad fresh) [] xs in output (came_in xs) ≡ r.text ++ tell_all r.state (lines_of r.left)
  -- and if they left nothing, the output
  pub all_taken : (xs : List Turn) → (turns (pad fresh) [] xs).left ≡ [] → (turns (pad fresh) [] xs).text ≡ output (came_in xs)
  -- of a text whose lines have all ended it takes every byte
  pub at_once : (s : Schedule) → sound s ≡ true → (t out : List ℕ) → Ended t → length (tell_all s (lines_of t)) + most_text ≤ length out
      → run_outcome s t out
      ≡ record { number = 0; value = count (length (tell_all s (lines_of t))); state = after_lines s (lines_of t); read = length t; bytes = over (tell_all s (lines_of t)) out }
  -- from the fresh schedule that is the output
  pub gives_output : (t out : List ℕ) → Ended t → length (output t) + most_text ≤ length out
      → run_outcome (pad fresh) t out
      ≡ record { number = 0; value = count (length (output t)); state = after_lines (pad fresh) (lines_of t); read = length t; bytes = over (output t) out }
  -- the last line may lack its line feed: with one added the lines are the same, and all have ended
  pub feed : (t : List ℕ) → (Ended t → ⊥) → (lines_of (t ++ line_feed) ≡ lines_of t) × Ended (t ++ line_feed)
  -- of a line that has not ended no more count than the longest frame's bytes and one
  pub cut : (s : Schedule) (t after : List ℕ) → ended_of t ≡ [] → tell_all s (lines_of (take (longest_line + 1) t ++ after)) ≡ tell_all s (lines_of (t ++ after))
  -- the worked example: one run over its lines writes what document 01 has printed for them
  pub example : (out : List ℕ) → length example_output + most_text ≤ length out
      → run_outcome (pad fresh) example_input out
      ≡ record { number = 0; value = count (length example_output); state = after_lines (pad fresh) (lines_of example_input); read = length example_input; bytes = over example_output out }
