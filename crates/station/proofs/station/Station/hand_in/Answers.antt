use Rattle.station.proofs.station.Station.hand_in.Goals as goal

-- a worker whose frame is finished goes on
pub returns-in-Ok-clause-gone : goal.returns-in-Ok-clause-gone
returns-in-Ok-clause-gone g c = tt

pub returns-in-Ok-clause-left : goal.returns-in-Ok-clause-left
returns-in-Ok-clause-left g c = tt
