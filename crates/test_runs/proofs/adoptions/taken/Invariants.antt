use Rattle.std.specs.Prelude.{None}
use Rattle.test_runs.proofs.adoptions.taken.Given as goal

-- the names are those of the two jobs, whose files aren't told
abbrev pub ghosts-adopt-N-Work : goal.ghosts-adopt-N-Work
ghosts-adopt-N-Work a = record { job = a.new_job.now; files = None; share = 1 }

abbrev pub ghosts-adopt-O-Work : goal.ghosts-adopt-O-Work
ghosts-adopt-O-Work a = record { job = a.old_job.now; files = None; share = 1 }
