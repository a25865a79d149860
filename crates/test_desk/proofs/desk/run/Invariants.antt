use Rattle.std.specs.Prelude.{None}
use Rattle.test_desk.proofs.desk.run.Given as goal

-- the name is that of the job, whose files aren't told
abbrev pub ghosts-run_alone : goal.ghosts-run_alone
ghosts-run_alone g a = record { job = a.task.now.job.now; files = None; share = a.task.now.share }
