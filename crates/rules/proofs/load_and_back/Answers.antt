-- An accepted image is formed, and its elements are bytes, so it is written again from its schedule.
use mathlib.Core.Bool.{and-eq-true_iff}
use native.Mathlib.Omega.{arith}
use Rattle.rules.specs.Image.{formed, imaged}
use Rattle.rules.proofs.Images.{image_loaded}
use Rattle.rules.proofs.load_and_back.Goals as goal

pub returns : goal.returns
unfolding imaged
returns c h =
    let l = c.args.b.now in
    image_loaded l (λ i. omega (arith, c.type_inv.b i)) ((and-eq-true_iff (formed l) _).0 h).0
