use Rattle.edl_events.proofs.AcceptedLaws.{accepts_well_made}
use Rattle.edl_events.proofs.list_law.Goals as goal

pub returns : goal.returns
returns c = record { made = accepts_well_made }
