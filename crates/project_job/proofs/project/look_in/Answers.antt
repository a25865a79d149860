-- Without a cube any files have no look.
use Rattle.std.proofs.Common.{refl}
use Rattle.project_job.proofs.Reading.{any_files}
use Rattle.project_job.proofs.project.look_in.Goals as goal

pub returns-in-None-clause-read : goal.returns-in-None-clause-read
returns-in-None-clause-read g c = any_files (g.S.Scans.state c.args.scan.now).world _ (λ files. rw (c.in-None.is, c.none.ensures) refl)
