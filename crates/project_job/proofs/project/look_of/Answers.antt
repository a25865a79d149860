use Rattle.std.proofs.Common.{refl}
use Rattle.outcome.specs.declared.Refused.TheVariants as refused
use Rattle.project_job.proofs.Loading.{own_stage}
use Rattle.project_job.proofs.project.look_of.Goals as goal

pub returns-in-Err-Fault-clause-stage : goal.returns-in-Err-Fault-clause-stage
returns-in-Err-Fault-clause-stage c = own_stage 3 (refused.Cube _) (λ cube. refl)
