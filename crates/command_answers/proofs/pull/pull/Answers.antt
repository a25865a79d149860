-- The job that the project comes to has its pull list.
use Rattle.std.proofs.Common.{refl}
use Rattle.scan_source.proofs.Leaving.{leaves_as, leaves_done}
use Rattle.command_words.specs.declared.command.Command.TheVariants as commands
use Rattle.command_answers.specs.Commands.Pull.{IsPullForm}
use Rattle.project_run.proofs.Leaving.{heads_planned, heads_unplanned}
use Rattle.command_answers.proofs.Plans.{job_done, job_refused, replied_job}
use Rattle.command_answers.proofs.Replies.{came_without, reply_of, error_of, outcome_of}
use Rattle.command_answers.proofs.pull.pull.Goals as goal

pub returns-in-Ok-list-clause-reply : goal.returns-in-Ok-list-clause-reply
returns-in-Ok-list-clause-reply g c =
    let job = c.in-Ok.ensures in
    reply_of _ _ _ _ _ tt (job_done (IsPullForm c.args.margin) c.args.path.now _ (g.S.Scans.state c.args.scan.now) _ c.in-Ok.job job.told job.read (rw c.in-Ok-list.is at c.list_of-list.ensures) job.job job.once job.heads)
    (λ not_done. absurd (not_done refl)) (leaves_done (λ same. cc) (λ same. cc) job.scan) (record { texts = job.loads; refused = λ refusal same. absurd (cc) }) (heads_planned _ c.args.path.now c.in-Ok.job _ _ job.told job.read job.job job.once job.heads)

pub returns-in-Err-clause-reply : goal.returns-in-Err-clause-reply
returns-in-Err-clause-reply g c =
    let job = c.in-Err.ensures in
    reply_of _ _ _ _ _ (replied_job (commands.Pull c.args.path.now c.args.margin) _ job.kind) (job_refused (IsPullForm c.args.margin) c.args.path.now _ (g.S.Scans.state c.args.scan.now) _ c.in-Err.outcome job.told job.read job.kind)
    (λ _. refl) (leaves_as (error_of _ _) (outcome_of _ _) job.scan) (record { texts = job.loads; refused = job.refused }) (heads_unplanned _ _ _ _ _ job.kind job.refused_heads)

pub returns-in-Err-list-clause-reply : goal.returns-in-Err-list-clause-reply
returns-in-Err-list-clause-reply g c =
    let job = c.in-Ok.ensures in
    reply_of _ _ _ _ _ tt (came_without (g.S.Scans.state c.args.scan.now).world c.args.path.now)
    (λ _. refl) (leaves_done (λ same. cc) (λ same. cc) job.scan) (record { texts = job.loads; refused = λ refusal same. absurd (cc) }) (record { refused = λ refusal same. absurd (cc); planned = λ no. absurd no })
