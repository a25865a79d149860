-- A crew's run is the reply of its command.
use Rattle.std.proofs.Common.{◌≡◌, length, rules, refl}
use Rattle.std.specs.Prelude.{vec_len}
use Rattle.project_crew.proofs.Crews.{crew_job_run, has_failed}
use Rattle.project_run.proofs.Runs.{match_each}
use Rattle.project_crew.proofs.crew.run_job.Goals as goal

pub run_crew-end-requires-clause-task : goal.run_crew-end-requires-clause-task
run_crew-end-requires-clause-task g c κs within = c.requires.task

pub run_crew-end-requires-clause-infos : goal.run_crew-end-requires-clause-infos
run_crew-end-requires-clause-infos g c κs within = c.requires.infos

pub run_crew-end-requires-clause-disk : goal.run_crew-end-requires-clause-disk
run_crew-end-requires-clause-disk g c κs within = record { start = refl; lent = refl; made = refl; moment = c.requires.unused.1; faults = c.requires.unused.0 }

pub returns-clause-ran : goal.returns-clause-ran
returns-clause-ran g c =
    let crew = c.run_crew-end.ensures in
    let all : vec_len c.args.scans ≡ length c.args.scans.items = search rules in
    let run = crew_job_run g.S.Scans.state _ _ c.args.extent c.args.task.now.range _ _ _ _ _ _ _ _ _ _ _ _ all refl crew.reported crew.ran crew.keeps crew.scans in
    match_each _ _ _ _ _ c.reply_of-result.ensures.reply (λ text reply. run _ _ reply) (λ outcome reply. run _ _ reply)

pub returns-clause-failed : goal.returns-clause-failed
returns-clause-failed g c is = has_failed g.S.Scans.state _ _ _ _ _ c.run_crew-end.ensures.scans (c.reply_of-result.ensures.source.0 is)
