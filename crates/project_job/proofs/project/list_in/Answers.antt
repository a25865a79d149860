-- The front of the list's file stands for the file.
use Rattle.std.proofs.Common.{refl}
use Rattle.project_job.proofs.Projects.{err_as, no_err, memory_apart, refused_apart, list_had, list_refused, list_missing}
use Rattle.project_job.proofs.Reading.{any_files}
use Rattle.scan_source.proofs.Leaving.{leaves_as, leaves_done}
use Rattle.project_job.proofs.Loading.{load_stage, memory_stage, own_stage}
use Rattle.outcome.specs.declared.Which.TheVariants as which
use Rattle.outcome.specs.declared.Refused.TheVariants as refused
use Rattle.project_job.proofs.project.list_in.Goals as goal

pub returns-in-Ok-read_list-clause-read : goal.returns-in-Ok-read_list-clause-read
returns-in-Ok-read_list-clause-read g c =
    list_had (g.S.Scans.state c.args.scan.now).world c.args.rate c.args.path.now c.in-Ok.front c.in-Ok-read_list.list c.in-Ok.ensures.read
    (rw c.deref.ensures.value at c.in-Ok-read_list.ensures.answer)

pub returns-in-Err-Fault-clause-read : goal.returns-in-Err-Fault-clause-read
returns-in-Err-Fault-clause-read g c =
    list_refused (g.S.Scans.state c.args.scan.now).world c.args.rate c.args.path.now c.in-Ok.front c.in-Err-Fault.refusal c.in-Ok.ensures.read
    (rw (c.in-Err-Fault.field-0-is, c.deref.ensures.value) at c.in-Err-Fault.ensures.answer)

pub returns-in-Err-clause-read : goal.returns-in-Err-clause-read
returns-in-Err-clause-read g c = list_missing (g.S.Scans.state c.args.scan.now).world c.args.rate c.args.path.now c.in-Err.outcome c.in-Err.ensures.read

pub returns-clause-read : goal.returns-clause-read
returns-clause-read g c = any_files (g.S.Scans.state c.args.scan.now).world _ (λ files. tt)

pub returns-in-Err-clause-stage : goal.returns-in-Err-clause-stage
returns-in-Err-clause-stage g c = load_stage which.List 2 c.in-Err.outcome (λ cube. refl) c.in-Err.ensures.kind

pub returns-in-Err-Fault-clause-stage : goal.returns-in-Err-Fault-clause-stage
returns-in-Err-Fault-clause-stage g c = own_stage 2 (refused.List c.in-Err-Fault.refusal) (λ cube. refl)

pub returns-clause-stage : goal.returns-clause-stage
returns-clause-stage g c = memory_stage 2

pub returns-in-Err-clause-scan : goal.returns-in-Err-clause-scan
returns-in-Err-clause-scan g c = leaves_as (err_as _ _) (err_as _ _) c.in-Err.ensures.scan

pub returns-in-Ok-read_list-clause-scan : goal.returns-in-Ok-read_list-clause-scan
returns-in-Ok-read_list-clause-scan g c = leaves_done (no_err _ _) (no_err _ _) c.in-Ok.ensures.scan

pub returns-in-Err-Fault-clause-scan : goal.returns-in-Err-Fault-clause-scan
returns-in-Err-Fault-clause-scan g c = leaves_done (no_err _ _) (refused_apart _) c.in-Ok.ensures.scan

pub returns-clause-scan : goal.returns-clause-scan
returns-clause-scan g c = leaves_done (no_err _ _) memory_apart c.in-Ok.ensures.scan
