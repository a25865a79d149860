use Rattle.std.proofs.Common.{rules}
use Rattle.station.proofs.station.Station.give_up.Goals as goal

pub returns-clause-gone : goal.returns-clause-gone
returns-clause-gone g c = search rules
