-- Frame by frame, its call. A buffer that the call is not lent stays as it is.
use mathlib.Core.Path.{refl}
use Rattle.calls.proofs.Said.{on_bare, on_clock}
use Rattle.calls.proofs.lines.act_on.Goals as goal

pub returns-in-Program : goal.returns-in-Program
returns-in-Program c = rw c.in-Program.is (on_bare refl c.requires c.add_program.ensures)

pub returns-in-Ask : goal.returns-in-Ask
returns-in-Ask c = rw c.in-Ask.is (on_bare refl c.requires c.ask.ensures)

pub returns-in-OptIn : goal.returns-in-OptIn
returns-in-OptIn c = rw c.in-OptIn.is (on_bare refl c.requires c.choose-in-OptIn.ensures)

pub returns-in-Event : goal.returns-in-Event
returns-in-Event c = rw c.in-Event.is (on_bare refl c.requires c.deliver.ensures)

pub returns-in-Cancel : goal.returns-in-Cancel
returns-in-Cancel c = rw c.in-Cancel.is (on_bare refl c.requires c.cancel.ensures)

pub returns-in-Clock : goal.returns-in-Clock
returns-in-Clock c = rw c.in-Clock.is (on_clock _ c.pass.ensures)

pub returns-in-OptOut : goal.returns-in-OptOut
returns-in-OptOut c = rw c.in-OptOut.is (on_bare refl c.requires c.choose.ensures)
