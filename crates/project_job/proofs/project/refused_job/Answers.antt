-- Each fault of a job but the scan's and want of memory is a refusal of the job.
use Rattle.std.proofs.Common.{◌≡◌, ◌≢◌, refl}
use Rattle.conform_job.specs.declared.parts.JobFault.{JobFault}
use Rattle.conform_job.specs.declared.parts.JobFault.TheVariants as faults
use Rattle.outcome.specs.declared.Outcome.TheVariants as outcomes
use Rattle.outcome.specs.declared.Refused.TheVariants as refused
use Rattle.project_job.specs.inside.Jobs.{outcome_of_fault}
use Rattle.project_job.proofs.project.refused_job.Goals as goal

job_refused : (fault : JobFault) → fault ≢ faults.SourceFault → fault ≢ faults.NoMemory → outcomes.Refused (refused.Job fault) ≡ outcome_of_fault fault
job_refused faults.SourceFault no_fault no_memory = absurd (no_fault refl)
job_refused faults.NoMemory no_fault no_memory = absurd (no_memory refl)
job_refused (faults.BadCut cut) no_fault no_memory = refl
job_refused (faults.UnknownReel line) no_fault no_memory = refl
job_refused (faults.MissingFrame line reel source) no_fault no_memory = refl
job_refused (faults.BadFrame line reel source bad) no_fault no_memory = refl
job_refused (faults.Geometry line reel source) no_fault no_memory = refl

pub returns-in_default : goal.returns-in_default
returns-in_default c = job_refused c.args.fault c.in_default.not-SourceFault c.in_default.not-NoMemory
