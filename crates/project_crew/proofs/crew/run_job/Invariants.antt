use Rattle.reel_disk.specs.Start.{start_of}
use Rattle.project_crew.specs.Crew.{told_by}
use Rattle.project_crew.proofs.crew.run_job.Given as goal

-- the name is that of the job and of the files that the scans tell, of what the disk held, how it is lent, and its calls before
abbrev pub ghosts-run_crew-N-Work : goal.ghosts-run_crew-N-Work
ghosts-run_crew-N-Work g a = record { job = a.task.now.job.now; files = told_by g.S.Scans.state a.scans.items; share = a.task.now.share }

abbrev pub ghosts-run_crew-N-Start : goal.ghosts-run_crew-N-Start
ghosts-run_crew-N-Start g a = record { start = start_of g.D.Disk.tells (g.D.Disk.state a.disk).history; loans = (g.D.Disk.state a.disk).loans; calls = (g.D.Disk.state a.disk).calls }
