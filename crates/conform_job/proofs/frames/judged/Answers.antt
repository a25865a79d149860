-- A file that isn't there is a missing frame.
use Rattle.std.proofs.Common.{ap, Err}
use Rattle.conform_job.proofs.frames.judged.Goals as goal

pub returns-in-Absent : goal.returns-in-Absent
returns-in-Absent c = rw c.in-Absent.is (ap Err c.missing.ensures)
