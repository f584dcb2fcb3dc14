-- The pairs of a line that is decoded are written again from its bytes, and those from the frame's fields.
use Rattle.frame.proofs.RoundTrips.{encoded_line}
use Rattle.frame.proofs.encode_decoded.Goals as goal

pub returns : goal.returns
returns c = encoded_line c.args.line.now
