-- At most 8 bytes.
use Rattle.octets.proofs.Fits.{number_got}
use Rattle.octets.proofs.numbers.Word.get_at.Goals as goal

pub returns : goal.returns
returns g c = number_got _ _ _ c.read_at.ensures g.met.Self.Word.short
