-- The tests are those of the definition.
use Rattle.rules.specs.Rows.{end_code}
use Rattle.calls.proofs.clock.end_code.Goals as goal

pub returns-then-c : goal.returns-then-c
unfolding end_code
returns-then-c c = rw (c.if-not-c.false, c.if-not-c-2.false, c.if-c.true)

pub returns-then-not-c : goal.returns-then-not-c
unfolding end_code
returns-then-not-c c = rw c.if-not-c.true

pub returns-then-not-c-2 : goal.returns-then-not-c-2
unfolding end_code
returns-then-not-c-2 c = rw (c.if-not-c.false, c.if-not-c-2.true)

pub returns : goal.returns
unfolding end_code
returns c = rw (c.if-not-c.false, c.if-not-c-2.false, c.if-c.false)
