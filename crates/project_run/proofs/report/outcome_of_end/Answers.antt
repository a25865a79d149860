-- A fault of the disk is one.
use Rattle.std.proofs.Common.{refl}
use Rattle.project_run.proofs.report.outcome_of_end.Goals as goal

pub returns-in-DiskFault : goal.returns-in-DiskFault
returns-in-DiskFault c = rw c.in-DiskFault.is refl
