-- The job that the project comes to has its plan.
use Rattle.std.proofs.Common.{refl}
use Rattle.scan_source.proofs.Leaving.{leaves_as, leaves_done}
use Rattle.command_words.specs.declared.command.Command.TheVariants as commands
use Rattle.command_answers.specs.Commands.Plan.{IsPlanForm}
use Rattle.project_run.proofs.Leaving.{heads_planned, heads_unplanned}
use Rattle.command_answers.proofs.Plans.{job_done, job_refused, replied_job}
use Rattle.command_answers.proofs.Replies.{came_without, reply_of, error_of, outcome_of}
use Rattle.command_answers.proofs.plan.plan.Goals as goal

pub returns-in-Ok-plan-clause-reply : goal.returns-in-Ok-plan-clause-reply
returns-in-Ok-plan-clause-reply g c =
    let job = c.in-Ok.ensures in
    reply_of _ _ _ _ _ tt (job_done IsPlanForm c.args.path.now _ (g.S.Scans.state c.args.scan.now) _ c.in-Ok.job job.told job.read (rw c.in-Ok-plan.is at c.plan_of-plan.ensures) job.job job.once job.heads)
    (λ not_done. absurd (not_done refl)) (leaves_done (λ same. cc) (λ same. cc) job.scan) (record { texts = job.loads; refused = λ refusal same. absurd (cc) }) (heads_planned _ c.args.path.now c.in-Ok.job _ _ job.told job.read job.job job.once job.heads)

pub returns-in-Err-clause-reply : goal.returns-in-Err-clause-reply
returns-in-Err-clause-reply g c =
    let job = c.in-Err.ensures in
    reply_of _ _ _ _ _ (replied_job (commands.Plan c.args.path.now) _ job.kind) (job_refused IsPlanForm c.args.path.now _ (g.S.Scans.state c.args.scan.now) _ c.in-Err.outcome job.told job.read job.kind)
    (λ _. refl) (leaves_as (error_of _ _) (outcome_of _ _) job.scan) (record { texts = job.loads; refused = job.refused }) (heads_unplanned _ _ _ _ _ job.kind job.refused_heads)

pub returns-in-Err-plan-clause-reply : goal.returns-in-Err-plan-clause-reply
returns-in-Err-plan-clause-reply g c =
    let job = c.in-Ok.ensures in
    reply_of _ _ _ _ _ tt (came_without (g.S.Scans.state c.args.scan.now).world c.args.path.now)
    (λ _. refl) (leaves_done (λ same. cc) (λ same. cc) job.scan) (record { texts = job.loads; refused = λ refusal same. absurd (cc) }) (record { refused = λ refusal same. absurd (cc); planned = λ no. absurd no })
