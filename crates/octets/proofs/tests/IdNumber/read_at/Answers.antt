-- The number of the id, if its bytes are all there.
use mathlib.Core.Path.{◌≡◌, ap, ◌∙◌}
use mathlib.Core.Bool.{Bool, true, false, cond}
use Prim.Native.Nat.{◌+◌}
use lib.Dec.{leb}
use lib.ListN.{length}
use Rattle.rules.specs.Records.{id_size, id_number, id_from}
use Rattle.rules.specs.Bytes.{read, id_at}
use Rattle.rules.proofs.IdLaws.{number_id}
use Rattle.octets.specs.Octets.{number_at, get_id}
use Rattle.octets.proofs.tests.IdNumber.read_at.Goals as goal

pub returns : goal.returns
unfolding number_at get_id
returns c = ap id_number c.get_id.ensures ∙ by (leb (c.args.at + id_size) (length c.args.b.now))
  where
    by : (t : Bool) → id_number (cond t (id_at c.args.at c.args.b.now) (id_from 0)) ≡ cond t (read id_size c.args.at c.args.b.now) 0
    by true = number_id (read id_size c.args.at c.args.b.now)
    by false = number_id 0
