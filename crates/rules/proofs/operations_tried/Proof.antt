-- The promise is the theorem: the tables were evaluated.
use Rattle.rules.proofs.FaceSeen.{faces_hold, no_image_evaluates}
use Rattle.rules.proofs.operations_tried.Statement.{statement}
use Rattle.rules.proofs.operations_tried.Tie as tie

returns : tie.Need-returns
returns c = record { cases = faces_hold; is_no_image = no_image_evaluates }

pub operations_tried_spec : {M : Type 1} → statement M
operations_tried_spec = tie.close (tie.spec returns)
