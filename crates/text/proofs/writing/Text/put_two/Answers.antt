-- Two bytes.
use mathlib.Core.Path.{◌≡◌}
use Prim.Native.Nat.{◌/◌, ◌%◌}
use native.Mathlib.Omega.{arith}
use Rattle.text.specs.Texts.{padded}
use Rattle.text.proofs.writing.Text.put_two.Goals as goal

pub returns : goal.returns
unfolding padded
returns c =
    let x = c.args.x in
    let e : x / 10 % 10 ≡ x / 10 = omega arith in
    rw e c.put.ensures
