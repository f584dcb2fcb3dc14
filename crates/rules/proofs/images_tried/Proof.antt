-- The promise is the theorem: the tables were evaluated.
use Rattle.rules.proofs.Witnessed.{image_tables}
use Rattle.rules.proofs.images_tried.Statement.{statement}
use Rattle.rules.proofs.images_tried.Tie as tie

returns : tie.Need-returns
returns c = image_tables

pub images_tried_spec : {M : Type 1} → statement M
images_tried_spec = tie.close (tie.spec returns)
