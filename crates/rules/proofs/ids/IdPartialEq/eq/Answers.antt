-- Equal in both halves.
use native.Mathlib.Omega.{arith}
use Rattle.rules.specs.Records.{id_number}
use Rattle.rules.proofs.IdLaws.{equal_halves}
use Rattle.rules.proofs.ids.IdPartialEq.eq.Goals as goal

pub returns : goal.returns
unfolding id_number
returns c =
    let ids = c.args in
    equal_halves ids.self.now.high ids.self.now.low ids.other.now.high ids.other.now.low (omega (arith, c)) (omega (arith, c))
