-- Two halves that fit are those of the number that they are.
use mathlib.Core.Path.{sym}
use Prim.Native.Nat.{◌<◌}
use native.Mathlib.Omega.{arith}
use Rattle.rules.specs.Records.{half_limit, id_from}
use Rattle.rules.proofs.IdLaws.{upper_half, lower_half}
use Rattle.rules.proofs.Id.of.Goals as goal

pub returns : goal.returns
unfolding id_from
returns c =
    let fits : c.args.low < half_limit = omega (arith, c) in
    λ k. record { high = sym (upper_half c.args.high c.args.low fits) k; low = sym (lower_half c.args.high c.args.low fits) k }
