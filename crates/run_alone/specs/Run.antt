-- What a run on one thread promises. All of it is this project's own rule.
-- * run on one thread [Ends, Ran, Asks]: over a range of frames: how it ends; what the work on a frame, and the run, make of an
--   open reel; what it finished, asked for and left acknowledged, also where the disk failed: then of all frames but the next
--   one; the whole reel
--     WasOpened      a run whose folder was opened: what it finished, asked for and left acknowledged
--     WasUnopened      a run whose folder was not
--     WasRun      one of both
--     RunMayWrite      which files a run may write over any disk
--     kept_in      how many frames of a range the opening kept
--     IsWhole      the folder has the whole range
use Rattle.std.specs.Prelude.{◌≡◌, ◌≢◌, ◌⊎◌, ◌↔◌, ℕ, ◌+◌, ◌-◌, ◌<◌, ◌≤◌, Bool, true, false, List, [], length, take, count_by, Contains, slice_index_or, Option, Some, IfSome}
use Rattle.std.specs.List.{range_with_len}
use Rattle.cf_base.specs.declared.file.FileId.{FileId}
use Rattle.scan_source.specs.World.{World, file_at}
use Rattle.conform_job.specs.Job.{JobData, file_of}
use Rattle.frame_render.specs.Frame.{frame_file}
use Rattle.reel_disk.specs.Disk.{Files, Moment, History, moment_of, view_of}
use Rattle.reel_disk.specs.Runs.{Surely}
use Rattle.frame_share.specs.declared.step.ShareStep.{ShareStep}
use Rattle.resume_ledger.specs.Ledger.{IsFit, IsLedgerFile, IsWrittenLedgerFile}
use Rattle.resume_ledger.specs.Attach.{IsOtherJob, IsBadLedger, IsUnwritten}
use Rattle.resume_ledger.specs.Sound.{AddsNone}
use Rattle.reel_writer.specs.Changes.{HasKept}
use Rattle.reel_writer.specs.Reel.{frames_of, HasAcked, IsRunFile, IsSoundReel}
use Rattle.run_alone.specs.Asks.{IsNext, closed_frames}
use Rattle.run_alone.specs.Ends.{IsEnd}
use Rattle.run_alone.specs.Ran.{WereFinished}
use Rattle.run_alone.specs.Sharing.{WereShared}
use Rattle.run_alone.specs.declared.report.Report.{Report}
use Rattle.frame_fetch.specs.declared.run_end.RunEnd.{RunEnd}
use Rattle.frame_fetch.specs.declared.run_end.RunEnd.TheVariants.{Done, OtherJob, BadLedger, Changed, SourceFault, DiskFault, NoMemory}

-- The folder acknowledges frame k just where its gate was open, or it was finished.
abbrev pub AcksFinished : JobData → (gates : List Bool) → (finished : List ℕ) → History → ℕ → Type 0
AcksFinished job gates finished new k = HasAcked job k (view_of new)
    ↔ ((slice_index_or gates k false ≡ true) ⊎ Contains finished k)

-- the file of a frame of the range that an opening of these files doesn't keep acknowledged
abbrev pub IsUnkeptOf : JobData → (low high : ℕ) → Files → FileId → Type 0
IsUnkeptOf job low high before q = (i : ℕ) × (low ≤ i) × (i < high) × (HasKept job i before → ⊥)
    × (q ≡ file_of job i)

-- what a run over a range may change: the ledger's files, and those of frames of the range that its opening didn't keep
abbrev pub IsOwnFileOf : JobData → (low high : ℕ) → Files → FileId → Type 0
IsOwnFileOf job low high before q = IsLedgerFile q ⊎ IsUnkeptOf job low high before q

-- what it writes: of the ledger's files those of version 2 alone
abbrev pub MayWriteOf : JobData → (low high : ℕ) → Files → FileId → Type 0
MayWriteOf job low high before q = IsWrittenLedgerFile q ⊎ IsUnkeptOf job low high before q

-- Which files a run over a range may write over any disk, by its end: none where the folder is another job's or has a bad ledger.
abbrev pub RunMayWrite : JobData → (low high : ℕ) → RunEnd → FileId → Type 0
RunMayWrite job low high (OtherJob kept wanted) q = ⊥
RunMayWrite job low high (BadLedger len) q = ⊥
RunMayWrite job low high end q = IsRunFile job low high q

-- how many frames of a range the opening kept
abbrev pub kept_in : (low high : ℕ) → List Bool → ℕ
kept_in low high gates = count_by (λ i. slice_index_or gates i false) (range_with_len low (high - low))

-- When a run ends, the folder acknowledges just the frames whose gate was open and those that it
-- finished, so many of the others in their order. Where the disk failed, that is so of all frames but
-- the next one, whose finish failed.
abbrev pub AcksAtExit : JobData → (low high : ℕ) → (gates : List Bool) → RunEnd → (rendered : ℕ) → History → Type 0
AcksAtExit job low high gates end rendered new = (k : ℕ)
    → (end ≡ DiskFault → IsNext gates low high rendered k → ⊥)
    → AcksFinished job gates (take rendered (closed_frames gates low high)) new k

-- The folder was unsealed or this job's. `gates` are the frames that the opening kept; at Done those of the
-- range and the rendered ones are the whole range. The folder
-- acknowledges now just these and those that the run finished. Where the disk failed, that is so of
-- all frames but the next one, whose finish failed. The log is that of the share, of so many frames.
pub record WasOpened (job : JobData) (low high : ℕ) (told : Option World) (capacity : ℕ) (tells : Bool)
    (old new : History) (end : RunEnd) (report : Report) (log : List ShareStep) : Type 0 where
  pub gates : List Bool
  pub size : length gates ≡ frames_of job
  pub opening : tells ≡ true → (k : ℕ)
      → (slice_index_or gates k false ≡ true) ↔ HasKept job k (view_of old)
  pub fit : tells ≡ true → IsFit job.parts.digest (frames_of job) (view_of old)
  pub is_end : IsEnd job told end
  pub kept : report.kept ≡ count_by (λ gate. gate) gates
  pub rest : end ≡ Done → kept_in low high gates + report.rendered ≡ high - low
  pub finished : WereFinished job low high gates end report.rendered log
  pub shared : WereShared capacity log report
  pub exit : tells ≡ true → AcksAtExit job low high gates end report.rendered new

-- Why the folder was not opened: 20.1 and 20.2 just where they are so, with nothing written, as
-- where memory ran out. Where the disk failed, no acknowledgement was made.
abbrev pub IsWhyUnopened : JobData → Bool → History → History → RunEnd → Type 0
IsWhyUnopened job tells old new Done = ⊥
IsWhyUnopened job tells old new (OtherJob kept wanted) = (kept ≢ wanted) × (wanted ≡ job.parts.digest)
    × (tells ≡ true → IsOtherJob job.parts.digest kept wanted old new)
IsWhyUnopened job tells old new (BadLedger len) = tells ≡ true
    → IsBadLedger job.parts.digest (frames_of job) len old new
IsWhyUnopened job tells old new (Changed key was now) = ⊥
IsWhyUnopened job tells old new SourceFault = ⊥
IsWhyUnopened job tells old new DiskFault = tells ≡ true
    → AddsNone job.parts.digest (frames_of job) old new
IsWhyUnopened job tells old new NoMemory = tells ≡ true → IsUnwritten old new

-- The folder was not opened, and no source file was asked for.
pub record WasUnopened (job : JobData) (tells : Bool) (old new : History) (end : RunEnd)
    (report : Report) (log : List ShareStep) : Type 0 where
  pub why : IsWhyUnopened job tells old new end
  pub kept : report.kept ≡ 0
  pub rendered : report.rendered ≡ 0
  pub loads : (report.loads ≡ 0) × (report.misses ≡ 0)
  pub unasked : log ≡ []

-- a run whose folder was opened, or was not
abbrev pub WasRun : JobData → (low high : ℕ) → Option World → ℕ → Bool → History → History → RunEnd → Report → List ShareStep → Type 0
WasRun job low high told capacity tells old new end report log =
    WasOpened job low high told capacity tells old new end report log ⊎ WasUnopened job tells old new end report log

-- each frame's file of the range is the job's
abbrev pub IsWhole : JobData → (low high : ℕ) → World → Moment → Type 0
IsWhole job low high world moment = (i : ℕ) → low ≤ i → i < high
    → moment.view (file_of job i) ≡ Some (frame_file job (file_at world) i)

-- every image of the moment acknowledges every frame of the range
pub record AreAllAcked (job : JobData) (low high : ℕ) (moment : Moment) : Type 0 where
  pub each : (i : ℕ) → low ≤ i → i < high → Surely moment (HasAcked job i)

-- Where the source files are told, and the run was begun on files that are sound and fit, the
-- folder has the whole range.
pub record HasWhole (job : JobData) (low high : ℕ) (told : Option World) (old new : History) : Type 0 where
  pub shown : IfSome told (λ world. Surely (moment_of old) (IsSoundReel job world)
      → IsWhole job low high world (moment_of new))
