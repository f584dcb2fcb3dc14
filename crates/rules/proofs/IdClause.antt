-- The clauses on ids, from their laws and those of bytes.
use mathlib.Core.Path.{◌≡◌, refl, ap, ◌∙◌}
use Prim.Native.Nat.{ℕ, ◌+◌, ◌*◌, ◌<◌}
use mathlib.Core.List.{◌++◌}
use native.Mathlib.Omega.{arith}
use lib.ListN.{replicate}
use Rattle.rules.specs.Records.{half_size, half_limit, id_size}
use Rattle.rules.specs.Bytes.{big}
use Rattle.rules.specs.Clauses.{IdClauses}
use Rattle.rules.proofs.IdLaws.{number_id, id_number_lem, id_below, from_fits, below_number}
use Rattle.rules.proofs.Numbers.{big_join}

zeros : big half_size 0 ≡ replicate half_size 0
unfolding big
zeros = refl

wider : (n : ℕ) → n < half_limit → big id_size n ≡ replicate half_size 0 ++ big half_size n
wider n h =
    let e : n ≡ 0 * half_limit + n = omega arith in
    ap (big id_size) e ∙ big_join half_size half_size 0 n h ∙ ap (λ z. z ++ big half_size n) zeros

pub id_clauses : IdClauses
id_clauses = record {
  made = λ n h. (from_fits n h, number_id n);
  told = λ i f. (id_below i f, id_number_lem i f);
  below = below_number;
  widened = wider;
}
