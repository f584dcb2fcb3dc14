-- There is room for a line feed behind any turned line, and for any refusal.
use mathlib.Core.Path.{◌≡◌, ap}
use Prim.Native.Nat.{◌+◌}
use mathlib.Core.Bool.{true}
use native.Mathlib.Omega.{arith}
use borrow.Author.Tests.{le-leb}
use lib.Dec.{leb}
use lib.ListN.{length}
use Rattle.rules.specs.Calls.{value_of, counted}
use Rattle.text.specs.Texts.{most_refused}
use Rattle.text.proofs.Printing.{put_one}
use Rattle.rules.proofs.FaceLaws.{some_number}
use Rattle.converter.proofs.end_text.Goals as goal

pub returns-in-Ok : goal.returns-in-Ok
returns-in-Ok c = rw (c.in-Ok.is, ← c.count.ensures) (put_one 10 (omega (arith, c.count.ensures, ap (λ a. counted (value_of a)) c.in-Ok.is)))

pub returns-in-Err : goal.returns-in-Err
returns-in-Err c =
    let a = c.args in
    let room : leb (a.at + most_refused) (length a.out.now) ≡ true = le-leb (a.at + most_refused) (length a.out.now) (omega arith) in
    rw (c.in-Err.is, some_number c.in-Err.refusal) (rw (room, c.number.ensures) at c.refused.ensures)
