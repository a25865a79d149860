-- The copied reels are the project's, and make its table.
use Rattle.std.proofs.Common.{ap, refl, ◌∙◌}
use Rattle.project_job.specs.Jobs.{unless_refused}
use Rattle.outcome.specs.declared.Refused.TheVariants as refused
use Rattle.project_job.proofs.Projects.{no_err, memory_apart, refused_apart, tabled}
use Rattle.project_job.proofs.Loading.{memory_stage, own_stage}
use Rattle.project_job.proofs.project.reels_of.Goals as goal

pub returns-in_default-clause-not_the_scan : goal.returns-in_default-clause-not_the_scan
returns-in_default-clause-not_the_scan c = memory_apart

pub of-requires : goal.of-requires
of-requires c = tabled c.args.project.now c.in-Ok.entries c.in-Ok.ensures c.requires

pub returns-in-Ok-of-clause-table : goal.returns-in-Ok-of-clause-table
returns-in-Ok-of-clause-table c = ap (unless_refused refused.Reels) (rw c.in-Ok.ensures at c.in-Ok-of.ensures.table)

pub returns-in-Ok-of-clause-entries : goal.returns-in-Ok-of-clause-entries
returns-in-Ok-of-clause-entries c = c.in-Ok-of.ensures.entries ∙ c.in-Ok.ensures

pub returns-in-Ok-of-clause-not_the_scan : goal.returns-in-Ok-of-clause-not_the_scan
returns-in-Ok-of-clause-not_the_scan c = no_err _ _

pub returns-in-Err-Fault-clause-table : goal.returns-in-Err-Fault-clause-table
returns-in-Err-Fault-clause-table c = ap (unless_refused refused.Reels) (rw (c.in-Err-Fault.field-0-is, c.in-Ok.ensures) at c.in-Err-Fault.ensures.table)

pub returns-in-Err-Fault-clause-not_the_scan : goal.returns-in-Err-Fault-clause-not_the_scan
returns-in-Err-Fault-clause-not_the_scan c = refused_apart _

pub returns-in-Err-NoMemory-clause-not_the_scan : goal.returns-in-Err-NoMemory-clause-not_the_scan
returns-in-Err-NoMemory-clause-not_the_scan c = memory_apart

pub returns-in_default-clause-stage : goal.returns-in_default-clause-stage
returns-in_default-clause-stage c = memory_stage 1

pub returns-in-Err-Fault-clause-stage : goal.returns-in-Err-Fault-clause-stage
returns-in-Err-Fault-clause-stage c = own_stage 1 (refused.Reels c.in-Err-Fault.fault) (λ cube. refl)

pub returns-in-Err-NoMemory-clause-stage : goal.returns-in-Err-NoMemory-clause-stage
returns-in-Err-NoMemory-clause-stage c = memory_stage 1
