-- Each return has the tests that led there.
use borrow.Author.Tests.{le-leb, lt-leb}
use Rattle.calls.proofs.programs.better_default.Goals as goal

pub returns-then-not-p-carried : goal.returns-then-not-p-carried
returns-then-not-p-carried c = rw (← c.is_in-carried.ensures, c.if-not-p-carried.true)

pub returns-then-b-p : goal.returns-then-b-p
returns-then-b-p c = rw (← c.is_in-carried.ensures, c.if-not-p-carried.false, c.in-Some.is, lt-leb _ _ c.if-b-p.true)

pub returns-else-b-p : goal.returns-else-b-p
returns-else-b-p c = rw (← c.is_in-carried.ensures, c.if-not-p-carried.false, c.in-Some.is, le-leb _ _ c.if-b-p.false)

pub returns-in_default : goal.returns-in_default
returns-in_default c = rw (← c.is_in-carried.ensures, c.if-not-p-carried.false, c.in_default.is)
