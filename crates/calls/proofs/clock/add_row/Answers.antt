-- A row is three parts, one after the other.
use Prim.Native.Nat.{◌+◌, ◌*◌, ◌≤◌}
use native.Mathlib.Omega.{arith}
use lib.ListN.{length}
use Rattle.rules.specs.Records.{id_size, id_number}
use Rattle.rules.specs.Bytes.{row_size}
use Rattle.calls.proofs.Puts.{number_put, row_put, one_row, row_size_lem}
use Rattle.calls.proofs.clock.add_row.Goals as goal

pub returns : goal.returns
returns c =
    let a = c.args in
    let fits : a.at * row_size + row_size ≤ length a.rows.now = omega (arith, c.requires.0, c.requires.1) in
    let first = number_put 8 a.t (omega (arith, fits)) c.put8.ensures in
    let second = number_put id_size (id_number a.id) (omega (arith, fits, first.size)) c.put_id.ensures in
    one_row _ _ a.at _ (row_size_lem a.t (id_number a.id) a.code)
    (row_put (a.at * row_size) a.t (id_number a.id) a.code c.ranges.code.fits fits first second)
