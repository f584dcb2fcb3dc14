-- The line's pairs are the frame's bytes, and those are its fields, which fit their widths.
use Rattle.frame.proofs.RoundTrips.{frame_fits, line_of_encoded}
use Rattle.frame.proofs.decode_encoded.Goals as goal

pub returns : goal.returns
returns c = line_of_encoded c.args.f (frame_fits c.args.f _ c.well_formed.0)
