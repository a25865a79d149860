use Rattle.demo.specs.contracts.scans.UnfailingScansScans.TheImpl as files_in_memory
use Rattle.demo.proofs.run.run.Given as goal

-- the name is that of the job and of the files that the scan tells
abbrev pub ghosts-run_alone : goal.ghosts-run_alone
ghosts-run_alone a = record { job = a.task.now.job.now; files = (files_in_memory.ghosts.state a.scan.now).world; share = a.task.now.share }
