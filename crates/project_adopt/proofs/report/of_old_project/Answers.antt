-- A refusal is one of the old project.
use Rattle.std.proofs.Common.{refl}
use Rattle.project_adopt.proofs.report.of_old_project.Goals as goal

pub returns-in-Refused : goal.returns-in-Refused
returns-in-Refused c = rw c.in-Refused.is refl
