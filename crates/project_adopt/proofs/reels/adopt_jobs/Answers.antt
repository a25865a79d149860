-- Both jobs are named, and what is promised by their names holds of the files that the scan tells.
use Rattle.std.proofs.Common.{refl}
use Rattle.reel_disk.specs.Disk.{view_of}
use Rattle.project_run.proofs.Runs.{match_each}
use Rattle.project_adopt.proofs.Looks.{one_look}
use Rattle.project_adopt.proofs.Names.{lent_serves, lent_tells, promised_told, promised_untold}
use Rattle.project_adopt.proofs.reels.adopt_jobs.Goals as goal

pub adopt_and_run-requires-clause-files : goal.adopt_and_run-requires-clause-files
adopt_and_run-requires-clause-files g c =
    lent_tells c.args.old_job.now (view_of (g.D.Disk.state c.args.old.now).history) g.D.Disk.tells (g.S.Scans.state c.args.scan.now).world

pub adopt_and_run-requires-clause-one_world : goal.adopt_and_run-requires-clause-one_world
adopt_and_run-requires-clause-one_world g c = refl

pub adopt_and_run-requires-clause-can_serve : goal.adopt_and_run-requires-clause-can_serve
adopt_and_run-requires-clause-can_serve g c =
    lent_serves c.args.old_job.now (view_of (g.D.Disk.state c.args.old.now).history) c.args.job.now g.D.Disk.tells (g.S.Scans.state c.args.scan.now).world
    (one_look (g.S.Scans.state c.args.scan.now).world c.args.job.now c.args.old_job.now c.requires.over c.requires.old_over)

pub returns-clause-went : goal.returns-clause-went
returns-clause-went g c = c.adopt_and_run.ensures.went

pub returns-clause-promise : goal.returns-clause-promise
returns-clause-promise g c told =
    let by = promised_untold c.args.old_job.now (view_of (g.D.Disk.state c.args.old.now).history) c.args.job.now in
    match_each _ _ _ _ _ (c.adopt_and_run.ensures.promise told)
    (λ text promised. by _ _ _ g.D.Disk.tells (g.S.Scans.state c.args.scan.now).world promised) (λ outcome promised. by _ _ _ g.D.Disk.tells (g.S.Scans.state c.args.scan.now).world promised)

pub returns-clause-sound : goal.returns-clause-sound
returns-clause-sound g c told sound =
    let by = promised_told c.args.old_job.now (view_of (g.D.Disk.state c.args.old.now).history) c.args.job.now in
    match_each _ _ _ _ _ (c.adopt_and_run.ensures.promise told)
    (λ text promised. by _ _ _ g.D.Disk.tells (g.S.Scans.state c.args.scan.now).world told sound promised) (λ outcome promised. by _ _ _ g.D.Disk.tells (g.S.Scans.state c.args.scan.now).world told sound promised)

pub returns-clause-scan : goal.returns-clause-scan
returns-clause-scan g c = c.adopt_and_run.ensures.scan.lent

pub returns-clause-heads : goal.returns-clause-heads
returns-clause-heads g c = c.adopt_and_run.ensures.scan.heads
