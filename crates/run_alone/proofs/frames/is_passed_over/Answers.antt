-- A frame is passed over as the reel says.
use Rattle.run_alone.proofs.frames.is_passed_over.Goals as goal

pub returns-clause-passed : goal.returns-clause-passed
returns-clause-passed g c = c.is_acked.ensures.acked
