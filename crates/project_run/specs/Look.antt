-- A command that looks at the reel folder of a project: `status`, `verify` and `qc`, which never change it, and `sheet`, which
-- writes a file behind its look. All of it is this project's own rule.
-- * look: the project came to a job, and its folder was looked at; or it came to none, as for `run`. What the ledger has was
--   found to be so, or it can't be had; no moment changed the folder
--     IsLookReply      the project came to a job, and the folder was looked at, or it came to none
--     HasFound      the ledger was looked at, and of what it has this was found
--     HasSeen      the same, and the folder was never changed
--     IsBehind      the look came to this view by its calls, and this is so of the folder behind them
use Rattle.std.specs.Prelude.{◌≡◌, ◌⊎◌, ℕ, ◌+◌, true, List, Option, Result, Ok, MatchResult}
use Rattle.scan_source.specs.World.{World}
use Rattle.reel_disk.specs.Call.{Call}
use Rattle.reel_writer.specs.Reel.{frames_of}
use Rattle.conform_job.specs.Answers.{count_after}
use Rattle.conform_job.specs.Job.{JobData}
use Rattle.resume_ledger.specs.Look.{ViewState, HasLooked, IsLookFor}
use Rattle.resume_ledger.specs.Calls.{Looks}
use Rattle.resume_ledger.specs.declared.attach.OpenFault.{OpenFault}
use Rattle.resume_ledger.specs.declared.attach.OpenFault.TheVariants as faults
use Rattle.project_job.specs.Jobs.{cube_count}
use Rattle.project_job.specs.Texts.{HasComeTo}
use Rattle.outcome.specs.declared.Outcome.{Outcome}
use Rattle.outcome.specs.declared.Outcome.TheVariants as outcome
use Rattle.reel_disk.specs.State.{FolderState}
use Rattle.project_run.specs.Calls.{WasOnlyRead}
use Rattle.project_run.specs.Run.{IsOfRun, IsUnplanned}

-- the outcome of a ledger that can't be had
abbrev pub outcome_of_fault : OpenFault → Outcome
outcome_of_fault (faults.OtherJob kept wanted) = outcome.OtherJob kept wanted
outcome_of_fault (faults.BadLedger len) = outcome.BadLedger len
outcome_of_fault faults.DiskFault = outcome.DiskFault
outcome_of_fault faults.NoMemory = outcome.NoMemory

-- what a command may come to behind its look at the ledger
abbrev pub IsBehindLook : Outcome → Type 0
IsBehindLook outcome.Done = Unit {0}
IsBehindLook outcome.DiskFault = Unit {0}
IsBehindLook outcome.NoMemory = Unit {0}
IsBehindLook other = ⊥

-- The ledger was looked at, and of what it has this was found, or it can't be had.
pub record HasFound (job : JobData) (disk disk_after : FolderState) (reached : Outcome) (Found : ViewState → Type 0) : Type 0 where
  pub ledger : Result ViewState OpenFault
  pub looked : disk.tells ≡ true → HasLooked job.parts.digest (frames_of job) disk.history disk_after.history ledger
  pub known : IsLookFor job.parts.digest (frames_of job) ledger
  pub found : MatchResult ledger Found (λ fault. (reached ≡ outcome_of_fault fault) ⊎ (reached ≡ outcome.NoMemory))

-- And the folder was read and nothing else.
pub record HasSeen (job : JobData) (disk disk_after : FolderState) (reached : Outcome) (Found : ViewState → Type 0) : Type 0 where
  pub seen : HasFound job disk disk_after reached Found
  pub reads : WasOnlyRead disk disk_after

-- The look came to this view by its calls on the disk, whether that tells or not, and this is so of the folder behind them.
abbrev pub IsBehind : JobData → FolderState → ViewState → (FolderState → Type 0) → Type 0
IsBehind job disk view Made = (behind : List Call) × Looks job.parts.digest (frames_of job) (Ok view) disk.calls behind
    × Made (record disk { calls = behind })

-- The project came to this job, and its folder was looked at so.
pub record HasLookedAt (told : Option World) (path : List ℕ) (loads loads_after : ℕ) (Looked : JobData → Type 0) : Type 0 where
  pub job : JobData
  pub comes : HasComeTo told path (Ok job)
  pub texts : loads_after ≡ count_after (2 + cube_count job.parts.project.cube) loads
  pub looked : Looked job

abbrev pub IsLookReply : Option World → List ℕ → FolderState → FolderState → ℕ → ℕ → Outcome → (JobData → Type 0) → Type 0
IsLookReply told path disk disk_after loads loads_after reached Looked =
    HasLookedAt told path loads loads_after Looked ⊎ IsUnplanned told path disk disk_after loads loads_after reached

-- the outcomes that a look at the folder may come to in place of Done: no source file is loaded, and none changes
abbrev pub IsOfLook : Outcome → Type 0
IsOfLook (outcome.Changed reel key was now) = ⊥
IsOfLook other = IsOfRun other
