-- The reel of a job, and what a run of calls on its folder keeps. All of it is this project's own
-- rule.
-- * run of calls on a reel: what a part of a finish keeps; no acknowledgement is lost; begun on sound and fit files, whatever a
--   crash leaves at any moment is sound and fit, for the frame files of the definition; a file that is there with just these
--   bytes; what the call that acknowledges a frame makes of the ledger; which files a run over some of the frames may write
--     frames_of job      how many frames the reel has
--     reel_of job files      for each frame its file and its bytes
--     IsReelRun job told old new      what each call on the reel keeps, and so does each run of them
--     IsRunFile job low high      a file that a run over the frames from low to high, exclusive, may write
--     IsSafeBeginning, IsSafeFinish      what an opening, and the finish of a frame, keep at each moment
use Rattle.std.specs.Prelude.{◌≡◌, ◌⊎◌, ℕ, ◌<◌, ◌≤◌, List, Option, Some, IfSome, Result}
use Rattle.cf_base.specs.declared.file.FileId.{FileId}
use Rattle.cf_base.specs.declared.file.FileId.TheVariants.{Body2}
use Rattle.scan_source.specs.World.{World, file_at}
use Rattle.record_timeline.specs.Accepted.{frame_count}
use Rattle.conform_job.specs.Job.{JobData, file_of}
use Rattle.conform_job.specs.Refusals as sources
use Rattle.frame_render.specs.Frame.{frame_file, frame_size}
use Rattle.reel_disk.specs.Disk.{Files, History, view_of}
use Rattle.reel_disk.specs.Runs.{Extends, NeverForgets, Spares, StaysSo}
use Rattle.resume_ledger.specs.Attach.{HasAttached}
use Rattle.resume_ledger.specs.Ledger.{Acks, IsLedgerFile, IsWrittenLedgerFile, LedgerState}
use Rattle.resume_ledger.specs.declared.attach.OpenFault.{OpenFault}
use Rattle.resume_ledger.specs.Sound.{Reel, IsSoundAndFit, HasItsFiles, AddsAtMost, AddsNone, WritesOnly}

abbrev pub frames_of : JobData → ℕ
frames_of job = frame_count job.parts.timeline.events

-- the files of the job's frames, and their bytes from the source files
abbrev pub reel_of : JobData → sources.Files → Reel
reel_of job files i = (file_of job i, frame_file job files i)

-- the files of the folder acknowledge the frame
abbrev pub HasAcked : JobData → ℕ → Files → Type 0
HasAcked job i files = Acks job.parts.digest (frames_of job) i files

-- each acknowledged frame is the job's, and the folder is unsealed or has the job's ledger
abbrev pub IsSoundReel : JobData → World → Files → Type 0
IsSoundReel job world files = IsSoundAndFit job.parts.digest (frames_of job)
    (reel_of job (file_at world)) files

-- the file is there with just these bytes
abbrev pub HasStored : FileId → List ℕ → Files → Type 0
HasStored file bytes files = files file ≡ Some bytes

-- Each frame that version 1 acknowledges has a file of a frame's length. Sound files have.
abbrev pub HasFrameFiles : JobData → Files → Type 0
HasFrameFiles job = HasItsFiles job.parts.digest (frames_of job) (file_of job) (frame_size job)

-- The answer of an opening of the folder for the job, whose frames' files have that length.
abbrev pub HasBegun : JobData → ℕ → History → History → Result LedgerState OpenFault → Type 0
HasBegun job size old new result =
    HasAttached job.parts.digest (frames_of job) (file_of job) size old new result

-- No acknowledgement is lost.
abbrev pub KeepsReel : JobData → History → History → Type 0
KeepsReel job old new = (k : ℕ) → NeverForgets old new (HasAcked job k)

-- Through a run of calls no acknowledgement is lost, where each frame that version 1 acknowledged at
-- the start had a file of a frame's length. Where the source files are told, and the run was begun
-- on files that are sound and fit, whatever a crash leaves at any moment is sound and fit.
pub record IsReelRun (job : JobData) (told : Option World) (old new : History) : Type 0 where
  pub extends : Extends old new
  pub keeps : HasFrameFiles job (view_of old) → KeepsReel job old new
  pub sound : IfSome told (λ world. StaysSo old new (IsSoundReel job world))

-- What a run over the frames from low to high, exclusive, may write: of the ledger's files those of version 2, and the files of
-- these frames.
abbrev pub IsRunFile : JobData → (low high : ℕ) → FileId → Type 0
IsRunFile job low high q = IsWrittenLedgerFile q ⊎ ((i : ℕ) × (low ≤ i) × (i < high) × (q ≡ file_of job i))

-- The rest is said of the steps of a finish.

-- what a finish of this file may write
abbrev pub IsWrittenFile : FileId → FileId → Type 0
IsWrittenFile file q = (q ≡ file) ⊎ (q ≡ Body2)

-- What an opening of the job's folder keeps at each moment: what a run keeps, and no acknowledgement is made. No file but those of
-- version 2 is written, and none is changed that isn't the ledger's.
pub record IsSafeBeginning (job : JobData) (told : Option World) (old new : History) : Type 0 where
  pub run : IsReelRun job told old new
  pub adds_none : AddsNone job.parts.digest (frames_of job) old new
  pub spares : Spares old new IsLedgerFile
  pub writes : WritesOnly old new IsWrittenLedgerFile

-- What the finish of frame i keeps at each moment, whatever the folder was: what a run keeps, and no acknowledgement is lost. All
-- other frames stay as they were, and all other files.
pub record IsSafeFinish (job : JobData) (told : Option World) (i : ℕ) (old new : History) : Type 0 where
  pub run : IsReelRun job told old new
  pub none_lost : KeepsReel job old new
  pub others : AddsAtMost i job.parts.digest (frames_of job) old new
  pub spares : Spares old new (IsWrittenFile (file_of job i))
