-- The worker leaves just where the station says so.
use Rattle.crew_worker.proofs.rounds.Shared.hand_in.Goals as goal

pub returns-clause-left : goal.returns-clause-left
returns-clause-left g c = c.hand_in.ensures.left
