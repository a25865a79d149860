-- The front of the project's file stands for the file.
use Rattle.std.proofs.Common.{refl}
use Rattle.project_job.proofs.Counted.{counted_project}
use Rattle.project_job.proofs.Projects.{err_as, no_err, memory_apart, refused_apart, project_had, project_missing, project_refused}
use Rattle.project_job.proofs.Reading.{any_files}
use Rattle.scan_source.proofs.Leaving.{leaves_as, leaves_done}
use Rattle.project_job.proofs.Loading.{load_stage, memory_stage, own_stage}
use Rattle.outcome.specs.declared.Which.TheVariants as which
use Rattle.outcome.specs.declared.Refused.TheVariants as refused
use Rattle.project_job.proofs.project.project_in.Goals as goal

pub returns-in-Ok-read_project-clause-read : goal.returns-in-Ok-read_project-clause-read
returns-in-Ok-read_project-clause-read g c =
    project_had (g.S.Scans.state c.args.scan.now).world c.args.path.now c.in-Ok.front c.in-Ok-read_project.project c.in-Ok.ensures.read
    (rw c.deref.ensures.value at c.in-Ok-read_project.ensures.project)

pub returns-in-Ok-read_project-clause-counted : goal.returns-in-Ok-read_project-clause-counted
returns-in-Ok-read_project-clause-counted g c = counted_project _ c.in-Ok-read_project.project c.in-Ok-read_project.ensures.project

pub returns-in-Err-Fault-clause-read : goal.returns-in-Err-Fault-clause-read
returns-in-Err-Fault-clause-read g c =
    project_refused (g.S.Scans.state c.args.scan.now).world c.args.path.now c.in-Ok.front c.in-Err-Fault.fault c.in-Ok.ensures.read
    (rw (c.in-Err-Fault.field-0-is, c.deref.ensures.value) at c.in-Err-Fault.ensures.project)

pub returns-in-Err-clause-read : goal.returns-in-Err-clause-read
returns-in-Err-clause-read g c = project_missing (g.S.Scans.state c.args.scan.now).world c.args.path.now c.in-Err.outcome c.in-Err.ensures.read

pub returns-clause-read : goal.returns-clause-read
returns-clause-read g c = any_files (g.S.Scans.state c.args.scan.now).world _ (λ files. tt)

pub returns-in-Err-clause-stage : goal.returns-in-Err-clause-stage
returns-in-Err-clause-stage g c = load_stage which.Project 1 c.in-Err.outcome (λ cube. refl) c.in-Err.ensures.kind

pub returns-in-Err-Fault-clause-stage : goal.returns-in-Err-Fault-clause-stage
returns-in-Err-Fault-clause-stage g c = own_stage 1 (refused.Project c.in-Err-Fault.fault) (λ cube. refl)

pub returns-clause-stage : goal.returns-clause-stage
returns-clause-stage g c = memory_stage 1

pub returns-in-Err-clause-scan : goal.returns-in-Err-clause-scan
returns-in-Err-clause-scan g c = leaves_as (err_as _ _) (err_as _ _) c.in-Err.ensures.scan

pub returns-in-Ok-read_project-clause-scan : goal.returns-in-Ok-read_project-clause-scan
returns-in-Ok-read_project-clause-scan g c = leaves_done (no_err _ _) (no_err _ _) c.in-Ok.ensures.scan

pub returns-in-Err-Fault-clause-scan : goal.returns-in-Err-Fault-clause-scan
returns-in-Err-Fault-clause-scan g c = leaves_done (no_err _ _) (refused_apart _) c.in-Ok.ensures.scan

pub returns-clause-scan : goal.returns-clause-scan
returns-clause-scan g c = leaves_done (no_err _ _) memory_apart c.in-Ok.ensures.scan

-- no file but the project's was loaded
pub returns-in-Err-Fault-clause-loads : goal.returns-in-Err-Fault-clause-loads
returns-in-Err-Fault-clause-loads g c = c.in-Ok.ensures.loads
