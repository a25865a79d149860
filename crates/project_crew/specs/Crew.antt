-- The command `run` with several workers: the reel of a project's job, rendered into the reel folder by a crew. All of it is
-- this project's own rule.
-- * `run` with several workers: the same by a crew: its steps, how it ended by them, and what was done with each scan; or it
--   came to none, and the first scan is handed back as it was lent
--     told_by      what the scans tell, which is the same of all
--     RanItsJobByCrew      the project came to a job, and a crew ran it in the folder
--     IsUnplannedByCrew      it came to none, and the folder is as it was
use Rattle.std.specs.Prelude.{◌≡◌, ◌≢◌, ◌⊎◌, ℕ, ◌+◌, ◌<◌, ◌≤◌, min, List, [], ◌∷◌, drop, length, slice_index_or, Option, None, MatchOption, Ok, Err}
use Rattle.cf_base.specs.Count.{HasRisen}
use Rattle.scan_source.specs.State.{HasFailedLast, ScanState}
use Rattle.scan_source.specs.World.{World}
use Rattle.frame_share.specs.declared.step.ShareStep.{ShareStep}
use Rattle.reel_writer.specs.Reel.{frames_of}
use Rattle.conform_job.specs.Answers.{count_after}
use Rattle.conform_job.specs.Job.{JobData}
use Rattle.render_board.specs.declared.step.Step.{Step}
use Rattle.run_crew.specs.Crews.{AreWorked, TookNoSteps, TookSteps}
use Rattle.frame_fetch.specs.Ends.{IsChange}
use Rattle.run_alone.specs.declared.report.Report.{Report}
use Rattle.frame_fetch.specs.declared.run_end.RunEnd.{RunEnd}
use Rattle.frame_fetch.specs.declared.run_end.RunEnd.TheVariants as ends
use Rattle.project_job.specs.Asked.{HasInspectedFor, HasLoadedFor, IsInspected}
use Rattle.project_job.specs.Jobs.{IsOfJob, AreLoaded, cube_count}
use Rattle.project_job.specs.Texts.{HasComeTo}
use Rattle.outcome.specs.declared.Outcome.{Outcome}
use Rattle.outcome.specs.declared.Outcome.TheVariants as outcome
use Rattle.reel_disk.specs.State.{FolderState}
use Rattle.frame_range.specs.Parts.{range_of}
use Rattle.frame_range.specs.declared.range.Extent.{Extent}
use Rattle.frame_range.specs.declared.range.FrameRange.{FrameRange}
use Rattle.run_alone.specs.Safe.{IsSafeRun}
use Rattle.project_run.specs.Run.{ReportsEnd, report_text}

-- what the first of some scans tells
abbrev pub told_by : {S : Type 0} → (S → ScanState) → List S → Option World
told_by state [] = None
told_by state (scan ∷ scans) = (state scan).world

-- the count of one of the scans rose
abbrev pub HasFailed : {S : Type 0} → (S → ScanState) → List S → List S → Type 0
HasFailed state old new = (k : ℕ) × (k < length old) × ((scan : _)
    → HasRisen (state (slice_index_or old k scan)).faults (state (slice_index_or new k scan)).faults)

module _ {S : Type 0} (state : S → ScanState) where
  -- so many loads were made of the first scan, and none of them failed; the others are untouched
  pub record HasFirstLoaded (texts : ℕ) (old new : List S) : Type 0 where
    pub size : length new ≡ length old
    pub loaded : (scan : S) → (state (slice_index_or new 0 scan)).loads ≡ count_after texts (state (slice_index_or old 0 scan)).loads
    pub steady : (scan : S) → (state (slice_index_or new 0 scan)).faults ≡ (state (slice_index_or old 0 scan)).faults
    pub told : (scan : S) → (state (slice_index_or new 0 scan)).world ≡ (state (slice_index_or old 0 scan)).world
    pub lent : (scan : S) → (state (slice_index_or new 0 scan)).loans ≡ (state (slice_index_or old 0 scan)).loans
    pub others : drop 1 new ≡ drop 1 old

  -- The job was run in the folder by a crew, over a range of its frames.
  pub record IsJobRunByCrew (job : JobData) (extent : Extent) (range : FrameRange) (told : Option World)
      (workers share : ℕ) (old new : List S) (disk disk_after : FolderState) (reached : Outcome) (output : List ℕ) : Type 0 where
    pub how : RunEnd
    pub report : Report
    pub reply : ReportsEnd job how (report_text extent range report) reached output
    pub frames : report.frames ≡ frames_of job
    -- the steps of the workers, how the run ended by them, and what the folder acknowledges now; or why there are none
    pub steps : Option (List Step)
    pub log : List ShareStep
    -- there are as many workers as were asked for, at most one a scan, and they share as many source frames as were asked for
    pub ran : MatchOption steps (TookNoSteps job disk.tells disk.history disk_after.history how report log)
        (λ all. TookSteps job range.low range.high told (min workers (length old)) share disk.tells disk.history
        disk_after.history all how report log)
    pub keeps : IsSafeRun job range told how disk disk_after
    -- what was done with the scans: as many loads as were reported
    pub scans : AreWorked state (min workers (length old)) report.loads (how ≡ ends.SourceFault) old new
    pub changed : IsChange how → 1 ≤ report.loads

  -- The project came to this job, which a crew ran in the folder, as far as it was asked for.
  pub record RanItsJobByCrew (path : List ℕ) (extent : Extent) (workers share : ℕ) (old new : List S)
      (disk disk_after : FolderState) (reached : Outcome) (output : List ℕ) : Type 0 where
    pub job : JobData
    pub comes : HasComeTo (told_by state old) path (Ok job)
    -- the scans when it was planned, with the first of them
    pub planned : List S
    pub texts : HasFirstLoaded (2 + cube_count job.parts.project.cube) old planned
    -- with it each needed source frame was inspected once; the crew asks for no head
    pub inspected : (scan : S) → IsInspected (told_by state old) job (state (slice_index_or old 0 scan)).heads
        (state (slice_index_or planned 0 scan)).heads
    pub ran : IsJobRunByCrew job extent (range_of extent (frames_of job)) (told_by state old) workers share
        planned new disk disk_after reached output

  -- The project came to no job, the folder is as it was, and so are all scans but the first, which is handed back as it was lent.
  pub record IsUnplannedByCrew (path : List ℕ) (old new : List S) (disk disk_after : FolderState) (reached : Outcome) : Type 0 where
    pub why : HasComeTo (told_by state old) path (Err reached)
    pub kind : IsOfJob reached
    pub untouched : disk_after ≡ disk
    pub size : length new ≡ length old
    pub texts : (scan : S) → AreLoaded 1 3 (state (slice_index_or old 0 scan)).loads (state (slice_index_or new 0 scan)).loads
    -- of a refused one the files up to the one that has the fault
    pub refused : (scan : S) → HasLoadedFor (told_by state old) path (state (slice_index_or old 0 scan)).loads
        (state (slice_index_or new 0 scan)).loads reached
    -- and no head, but those of a job's frames up to the refused one
    pub refused_heads : (scan : S) → HasInspectedFor (told_by state old) path (state (slice_index_or old 0 scan)).heads
        (state (slice_index_or new 0 scan)).heads reached
    -- a call of it that failed is the last that was made
    pub last : reached ≡ outcome.SourceFault
        → (scan : S) → HasFailedLast (state (slice_index_or old 0 scan)) (state (slice_index_or new 0 scan))
    pub steady : reached ≢ outcome.SourceFault
        → (scan : S) → (state (slice_index_or new 0 scan)).faults ≡ (state (slice_index_or old 0 scan)).faults
    pub later : (scan : S) → (state (slice_index_or old 0 scan)).faults ≤ (state (slice_index_or new 0 scan)).faults
    pub told : (scan : S) → (state (slice_index_or new 0 scan)).world ≡ (state (slice_index_or old 0 scan)).world
    pub lent : (scan : S) → (state (slice_index_or new 0 scan)).loans ≡ (state (slice_index_or old 0 scan)).loans
    pub others : drop 1 new ≡ drop 1 old

  abbrev pub IsCrewReply : List ℕ → Extent → ℕ → ℕ → List S → List S → FolderState → FolderState → Outcome → List ℕ → Type 0
  IsCrewReply path extent workers share old new disk disk_after reached output =
      RanItsJobByCrew path extent workers share old new disk disk_after reached output
      ⊎ IsUnplannedByCrew path old new disk disk_after reached
