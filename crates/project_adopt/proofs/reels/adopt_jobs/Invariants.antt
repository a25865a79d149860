use Rattle.reel_disk.specs.Disk.{view_of}
use Rattle.project_adopt.specs.Adopt.{share_count}
use Rattle.project_adopt.proofs.Names.{lent}
use Rattle.project_adopt.proofs.reels.adopt_jobs.Given as goal

-- both names have the same files: those that the scan tells, where the old folder is told and sound over them
abbrev pub ghosts-adopt_and_run-N-Work : goal.ghosts-adopt_and_run-N-Work
ghosts-adopt_and_run-N-Work g a = record { job = a.job.now; files = lent g.D.Disk.tells (g.S.Scans.state a.scan.now).world a.old_job.now (view_of (g.D.Disk.state a.old.now).history); share = share_count }

abbrev pub ghosts-adopt_and_run-O-Work : goal.ghosts-adopt_and_run-O-Work
ghosts-adopt_and_run-O-Work g a = record { job = a.old_job.now; files = lent g.D.Disk.tells (g.S.Scans.state a.scan.now).world a.old_job.now (view_of (g.D.Disk.state a.old.now).history); share = share_count }
