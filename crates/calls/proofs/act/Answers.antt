-- 1, or the call of the frame.
use mathlib.Core.Path.{◌≡◌}
use mathlib.Core.List.{List, []}
use Prim.Native.Nat.{ℕ}
use Rattle.rules.specs.declared.Frame.{Frame}
use Rattle.rules.specs.declared.Line.{Line}
use Rattle.rules.specs.declared.Line.TheVariants.{Good}
use Rattle.rules.specs.declared.Schedule.{Schedule}
use Rattle.rules.specs.Calls.{Outcome, call}
use Rattle.rules.specs.Frames.{line_of, frame_call}
use Rattle.calls.specs.Lines.{buffer_after, line_outcome, frame_outcome}
use Rattle.calls.proofs.act.Goals as goal

-- a line that is a frame: what the frame's call gives, with the buffer that is lent for rows
framed : (s : Schedule) (line lent : List ℕ) {l : Line} {f g : Frame} {o : Outcome} → l ≡ line_of line → l ≡ Good f → f ≡ g → o ≡ call s (frame_call g lent)
    → record { number = o.number; value = o.value; state = o.state; bytes = buffer_after (frame_call g lent) o lent; records = [] } ≡ line_outcome s line lent
unfolding line_outcome frame_outcome
framed s line lent decoded good is e = rw (← decoded, good, is, e)

pub returns-in_default : goal.returns-in_default
unfolding line_outcome
returns-in_default c = rw (c.refused.ensures, ← c.decode-decoded.ensures, c.in_default.is)

pub returns-in-Event : goal.returns-in-Event
returns-in-Event c = let a = c.args in framed a.s a.line.now a.buffer.now c.decode-decoded.ensures c.in-Good.is c.in-Event.is c.deliver.ensures

pub returns-in-Cancel : goal.returns-in-Cancel
returns-in-Cancel c = let a = c.args in framed a.s a.line.now a.buffer.now c.decode-decoded.ensures c.in-Good.is c.in-Cancel.is c.cancel.ensures

pub returns-in-Clock : goal.returns-in-Clock
returns-in-Clock c = let a = c.args in framed a.s a.line.now a.buffer.now c.decode-decoded.ensures c.in-Good.is c.in-Clock.is c.set_clock.ensures

pub returns-in-Program : goal.returns-in-Program
returns-in-Program c = let a = c.args in framed a.s a.line.now a.buffer.now c.decode-decoded.ensures c.in-Good.is c.in-Program.is c.add_program.ensures

pub returns-in-Ask : goal.returns-in-Ask
returns-in-Ask c = let a = c.args in framed a.s a.line.now a.buffer.now c.decode-decoded.ensures c.in-Good.is c.in-Ask.is c.ask.ensures

pub returns-in-OptOut : goal.returns-in-OptOut
returns-in-OptOut c = let a = c.args in framed a.s a.line.now a.buffer.now c.decode-decoded.ensures c.in-Good.is c.in-OptOut.is c.choose.ensures

pub returns-in-OptIn : goal.returns-in-OptIn
returns-in-OptIn c = let a = c.args in framed a.s a.line.now a.buffer.now c.decode-decoded.ensures c.in-Good.is c.in-OptIn.is c.choose-in-OptIn.ensures
