-- At each place the record of a place that is not in use.
use mathlib.Core.Path.{ap, ◌∙◌}
use lib.ListN.{replicate}
use Rattle.rules.specs.Records.{most_events}
use Rattle.rules.specs.Calls.{record_of}
use Rattle.listing.proofs.records.no_records.Goals as goal

pub returns : goal.returns
returns c = ap (λ r. replicate most_events r) (c.from-record.ensures ∙ ap record_of c.none.ensures)
