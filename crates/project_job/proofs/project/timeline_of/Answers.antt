use Rattle.std.proofs.Common.{refl}
use Rattle.outcome.specs.declared.Refused.TheVariants as refused
use Rattle.project_job.proofs.Loading.{memory_stage, own_stage}
use Rattle.project_job.proofs.project.timeline_of.Goals as goal

pub returns-in-Err-Fault-clause-stage : goal.returns-in-Err-Fault-clause-stage
returns-in-Err-Fault-clause-stage c = own_stage 2 (refused.Timeline c.in-Err-Fault.fault) (λ cube. refl)

pub returns-in-Err-NoMemory-clause-stage : goal.returns-in-Err-NoMemory-clause-stage
returns-in-Err-NoMemory-clause-stage c = memory_stage 2
