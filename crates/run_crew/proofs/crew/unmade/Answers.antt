use Rattle.std.proofs.Common.{refl}
use Rattle.run_crew.proofs.crew.unmade.Goals as goal

pub returns-clause-end : goal.returns-clause-end
returns-clause-end g c = refl

pub returns-clause-kept : goal.returns-clause-kept
returns-clause-kept g c = (refl, refl)

pub returns-clause-loads : goal.returns-clause-loads
returns-clause-loads g c = (refl, refl)

pub returns-clause-history : goal.returns-clause-history
returns-clause-history g c = refl

pub returns-clause-scans : goal.returns-clause-scans
returns-clause-scans g c = refl

pub returns-clause-disk : goal.returns-clause-disk
returns-clause-disk g c = refl
