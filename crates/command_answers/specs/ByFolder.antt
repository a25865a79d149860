-- What the commands of a project share that make calls on a folder.
--     HasFitFolder world path disk      the project comes to a job, and the folder is unsealed or that job's
--     HasSoundFolder world path disk      the same, and what it acknowledges is the job's
--     reel_meaning      what a command means that makes calls on the folder of the reel alone
use Rattle.std.specs.Prelude.{◌≡◌, ℕ, true, List, Ok, Option}
use Rattle.scan_source.specs.World.{World, file_at}
use Rattle.conform_job.specs.Job.{JobData}
use Rattle.reel_disk.specs.Disk.{view_of}
use Rattle.resume_ledger.specs.Ledger.{IsFit}
use Rattle.reel_writer.specs.Reel.{frames_of}
use Rattle.outcome.specs.declared.Outcome.{Outcome}
use Rattle.project_job.specs.Jobs.{ComesTo}
use Rattle.reel_disk.specs.State.{FolderState}
use Rattle.project_adopt.specs.Adopt.{IsOldSound}
use Rattle.command_answers.specs.ByJob.{AreJobHeads}
use Rattle.command_answers.specs.Meaning.{Calls, HasReelFailed, Meaning}
use Rattle.command_answers.specs.States.{House}

-- It comes to a job, and the folder is unsealed or has this job's ledger.
pub record HasFitFolder (world : World) (path : List ℕ) (disk : FolderState) : Type 0 where
  pub job : JobData
  pub comes : ComesTo (file_at world) path (Ok job.parts)
  pub tells : disk.tells ≡ true
  pub fit : IsFit job.parts.digest (frames_of job) (view_of disk.history)

-- The same, and each frame that the folder acknowledges is the job's.
pub record HasSoundFolder (world : World) (path : List ℕ) (disk : FolderState) : Type 0 where
  pub place : HasFitFolder world path disk
  pub sound : IsOldSound place.job world (view_of disk.history)

-- It is right by the folder: how it uses that says so, and what was loaded.
abbrev pub reel_meaning : List ℕ → Calls → (House → Option World → (loads loads_after : ℕ)
    → (disk disk_after : FolderState) → Outcome → List ℕ → Type 0) → (Outcome → Type 0) → Meaning
reel_meaning path calls Uses IsComplete = record {
  IsRight = λ reached output before after. Unit {0};
  HasLoaded = λ before after reached. Unit {0};
  LooksAtHeads = AreJobHeads path;
  calls = calls;
  UsesDisk = λ house before after folders folders_after. Uses house before.world before.loads after.loads folders.reel folders_after.reel;
  HasFailedDisk = HasReelFailed;
  IsAccepted = λ world folders. HasFitFolder world path folders.reel;
  IsComplete = IsComplete;
}
