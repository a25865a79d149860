use Rattle.project_run.proofs.alone.run_job.Given as goal

-- the name is that of the job and of the files that the scan tells
abbrev pub ghosts-run_alone : goal.ghosts-run_alone
ghosts-run_alone g a = record { job = a.task.now.job.now; files = (g.S.Scans.state a.scan.now).world; share = a.task.now.share }
