use Rattle.std.proofs.Common.{sym}
use Rattle.render_board.proofs.Holding.{stopped_has_stop}
use Rattle.crew_rest.proofs.rest.Rest.stop_held.Goals as goal

pub returns-in-Stopped-clause-stopped : goal.returns-in-Stopped-clause-stopped
returns-in-Stopped-clause-stopped g c is = stopped_has_stop c.loop-worker.self.station.log c.loop-worker.worker c.loop-worker.invariant.legal (sym c.in-Stopped.ensures)
