-- A line that is no frame is refused; any other has the text of its call.
use Rattle.calls.proofs.Said.{says_bad, says_good}
use Rattle.calls.proofs.lines.tell.Goals as goal

pub returns-in_default : goal.returns-in_default
returns-in_default c = rw c.in_default.is (says_bad c.args.s.now.schedule c.requires.1 _ c.requires.0 (rw c.number.ensures at c.refused.ensures))

pub returns : goal.returns
returns c = rw c.in-Good.is (says_good c.args.s.now.schedule c.requires.1 _ c.act_on-answer.ensures _ c.numbered.ensures.number c.numbered.ensures.value _ c.told.ensures)
