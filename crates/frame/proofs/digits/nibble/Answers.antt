-- The ranges of the match are those of the definition.
use mathlib.Core.Path.{sym}
use native.Mathlib.Omega.{arith}
use borrow.Author.Tests.{le-leb, lt-leb}
use Rattle.rules.specs.Frames.{digit}
use Rattle.frame.proofs.Pairs.{digit_low, digit_high}
use Rattle.frame.proofs.digits.nibble.Goals as goal

pub returns-in-48-to-57 : goal.returns-in-48-to-57
returns-in-48-to-57 c = sym (digit_low _ (omega arith) (omega arith))

pub returns-in-65-to-70 : goal.returns-in-65-to-70
returns-in-65-to-70 c = omega (arith, digit_high c.args.c (omega arith) (omega arith))

pub returns-in_default : goal.returns-in_default
unfolding digit
returns-in_default c = let x = c.args.c in simp (lt-leb 48 x (omega arith), lt-leb 65 x (omega arith))

pub returns-in_default-2 : goal.returns-in_default-2
unfolding digit
returns-in_default-2 c =
    let x = c.args.c in
    simp (le-leb 48 x (omega arith), lt-leb x 57 (omega arith), lt-leb 65 x (omega arith))

pub returns-in_default-3 : goal.returns-in_default-3
unfolding digit
returns-in_default-3 c =
    let x = c.args.c in
    simp (le-leb 48 x (omega arith), lt-leb x 57 (omega arith), le-leb 65 x (omega arith), lt-leb x 70 (omega arith))
