-- What the commands of a project share.
--     IsJobReply IsForm path      what is put of the job that the project came to, or the refusal in its place
--     IsJobLoaded, AreJobHeads      what was loaded and looked at for it
--     HasJob world path      the project comes to a job
--     printed_meaning      what a command means that puts a text of the job
use Rattle.std.specs.Prelude.{ℕ, List, Ok, Err}
use Rattle.scan_source.specs.State.{ScanState}
use Rattle.scan_source.specs.World.{World, file_at}
use Rattle.conform_job.specs.Job.{JobData}
use Rattle.conform_job.specs.declared.parts.JobParts.{JobParts}
use Rattle.project_job.specs.Asked.{AreHeadsFor, HasLoadedFor, IsInspected}
use Rattle.project_job.specs.Jobs.{AreLoaded, ComesTo}
use Rattle.project_job.specs.Texts.{HasComeTo}
use Rattle.outcome.specs.declared.Outcome.{Outcome}
use Rattle.outcome.specs.declared.Outcome.TheVariants.{Done}
use Rattle.command_answers.specs.Meaning.{HasReelFailed, IsThrough, LeavesReel, Meaning, no_calls}

-- What is put of the job that the project came to: over files that are told that of these, over any that of the texts that were
-- read. Each needed source frame was inspected once.
pub record IsPutOfJob (IsForm : JobParts → List ℕ → Type 0) (path output : List ℕ) (before after : ScanState) : Type 0 where
  pub job : JobData
  pub comes : HasComeTo before.world path (Ok job)
  pub form : IsForm job.parts output
  pub inspected : IsInspected before.world job before.heads after.heads

abbrev pub IsJobReply : (JobParts → List ℕ → Type 0) → List ℕ → Outcome → List ℕ → ScanState → ScanState → Type 0
IsJobReply IsForm path Done output before after = IsPutOfJob IsForm path output before after
IsJobReply IsForm path reached output before after = HasComeTo before.world path (Err reached)

-- the texts of a project, and of a refused one those up to the one that has the fault
pub record IsJobLoaded (path : List ℕ) (before after : ScanState) (reached : Outcome) : Type 0 where
  pub texts : AreLoaded 1 3 before.loads after.loads
  pub refused : HasLoadedFor before.world path before.loads after.loads reached

-- of a refused project no head is asked for before the frames of its job are judged, and behind a plan one of each needed frame
abbrev pub AreJobHeads : List ℕ → ScanState → ScanState → Outcome → Type 0
AreJobHeads path before after reached = AreHeadsFor before.world path before.heads after.heads reached

-- the project comes to a job
abbrev pub HasJob : World → List ℕ → Type 0
HasJob world path = (job : JobData) × ComesTo (file_at world) path (Ok job.parts)

-- It puts a text of the job's parts, and makes no call on a folder.
abbrev pub printed_meaning : List ℕ → (JobParts → List ℕ → Type 0) → Meaning
printed_meaning path IsForm = record {
  IsRight = IsJobReply IsForm path;
  HasLoaded = IsJobLoaded path;
  LooksAtHeads = AreJobHeads path;
  calls = no_calls;
  UsesDisk = LeavesReel;
  HasFailedDisk = HasReelFailed;
  IsAccepted = λ world folders. HasJob world path;
  IsComplete = IsThrough;
}
