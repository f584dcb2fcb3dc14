-- The lowest bit is flipped.
use native.Mathlib.Omega.{arith}
use borrow.Author.Rules.{rules}
use Rattle.calls.proofs.Sets.{lowest}
use Rattle.calls.proofs.bits.PlacesIterator.next.Goals as goal

pub returns-clause-steps : goal.returns-clause-steps
returns-clause-steps c = lowest c.args.self.now.rest (omega arith) c.if-self-eq0.false

pub returns-clause-goes : goal.returns-clause-goes
returns-clause-goes c = let low = lowest c.args.self.now.rest (omega arith) c.if-self-eq0.false in search (rules, low.less)
