-- What a run is to do.
-- * task of a run: its job, which of the job's frames it renders, and how many decoded source frames are shared
use Rattle.std.specs.Prelude.{◌≡◌, ℕ, ◌≤◌}
use Rattle.cf_base.specs.declared.limits.TheConstants.{SHARED}
use Rattle.conform_job.specs.Job.{JobData}
use Rattle.reel_writer.specs.Reel.{frames_of}
use Rattle.run_alone.specs.declared.task.Task.{Task}

-- The job is the named one, and the range lies in its reel. From 1 to 16 decoded source frames are shared, so many as are named.
pub record IsTask (named : JobData) (share : ℕ) (task : Task) : Type 0 where
  pub job : task.job.now ≡ named
  pub ordered : task.range.low ≤ task.range.high
  pub within : task.range.high ≤ frames_of named
  pub shared : task.share ≡ share
  pub least : 1 ≤ task.share
  pub most : task.share ≤ SHARED
