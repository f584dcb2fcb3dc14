-- The fields of a schedule that is given by value fit their widths.
use Rattle.rules.proofs.Images.{image_kept}
use Rattle.rules.proofs.Ranges.{schedule_fits}
use Rattle.rules.proofs.image_and_back.Goals as goal

pub returns : goal.returns
returns c h = image_kept c.args.s h (schedule_fits c.args.s _ c.well_formed.0)
