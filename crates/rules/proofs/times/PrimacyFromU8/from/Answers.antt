-- The ranges of the match are those of the definition.
use native.Mathlib.Omega.{arith}
use borrow.Author.Tests.{le-leb, lt-leb}
use Rattle.rules.specs.Records.{usable}
use Rattle.rules.proofs.times.PrimacyFromU8.from.Goals as goal

pub returns-in_default : goal.returns-in_default
unfolding usable
returns-in_default c = let p = c.args.primacy in simp (lt-leb p 2 (omega arith), lt-leb 65 p (omega arith))

pub returns-in_default-2 : goal.returns-in_default-2
unfolding usable
returns-in_default-2 c =
    let p = c.args.primacy in
    simp (lt-leb p 2 (omega arith), le-leb 65 p (omega arith), lt-leb p 191 (omega arith))

pub returns-in-0-to-2 : goal.returns-in-0-to-2
unfolding usable
returns-in-0-to-2 c = simp (le-leb c.args.primacy 2 (omega arith))

pub returns-in-0-to-2-2 : goal.returns-in-0-to-2-2
unfolding usable
returns-in-0-to-2-2 c =
    let p = c.args.primacy in
    simp (lt-leb p 2 (omega arith), le-leb 65 p (omega arith), le-leb p 191 (omega arith))
