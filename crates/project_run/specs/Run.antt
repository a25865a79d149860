-- The commands `run` and `part`: the reel of a project's job, or a part of it, rendered into the reel folder. All of it is this
-- project's own rule. `run` is the extent of all frames.
-- * `run`, `part`: the project came to a job, which was run in the folder, all of it or a part, at each moment by the crash
--   promise, which a crew's run has in the same words; or it came to none, and the folder is as it was, with the files loaded up
--   to the refused one
--     RanItsJob      the project came to a job, and the job was run in the folder
--     IsUnplanned      it came to none, and the folder is as it was
use Rattle.std.specs.Prelude.{◌≡◌, ◌⊎◌, ℕ, ◌+◌, ◌-◌, ◌≤◌, List, [], ◌∷◌, ◌++◌, codes, decimal, slice_get, unwrap_or, Option, Some, Ok, Err}
use Rattle.std.specs.Option.{option_map}
use Rattle.cf_base.specs.declared.limits.TheConstants.{SHARED}
use Rattle.cf_base.specs.Count.{HasRisen}
use Rattle.cf_base.specs.declared.reel.ReelEntry.{ReelEntry}
use Rattle.scan_source.specs.World.{World}
use Rattle.frame_share.specs.declared.step.ShareStep.{ShareStep}
use Rattle.frame_range.specs.Parts.{range_of}
use Rattle.frame_range.specs.declared.range.Extent.{Extent}
use Rattle.frame_range.specs.declared.range.Extent.TheVariants.{Whole, Part}
use Rattle.frame_range.specs.declared.range.FrameRange.{FrameRange}
use Rattle.reel_writer.specs.Reel.{frames_of}
use Rattle.conform_job.specs.Answers.{count_after}
use Rattle.conform_job.specs.Job.{JobData}
use Rattle.conform_job.specs.Keys.{info_at}
use Rattle.frame_fetch.specs.Ends.{IsChange}
use Rattle.run_alone.specs.Run.{WasRun}
use Rattle.run_alone.specs.Safe.{IsSafeRun}
use Rattle.run_alone.specs.declared.report.Report.{Report}
use Rattle.frame_fetch.specs.declared.run_end.RunEnd.{RunEnd}
use Rattle.frame_fetch.specs.declared.run_end.RunEnd.TheVariants as ends
use Rattle.project_job.specs.Asked.{HasLoadedFor}
use Rattle.project_job.specs.Jobs.{IsOfJob, AreLoaded, cube_count}
use Rattle.project_job.specs.Texts.{HasComeTo}
use Rattle.printed_text.specs.Text.{spaced_line}
use Rattle.reel_disk.specs.State.{FolderState}
use Rattle.outcome.specs.declared.Outcome.{Outcome}
use Rattle.outcome.specs.declared.Outcome.TheVariants as outcome

-- from 1 to 16
abbrev pub IsShareCount : ℕ → Type 0
IsShareCount n = (1 ≤ n) × (n ≤ SHARED)

-- the frames of the reel, those that were acknowledged at the opening, and the rendered ones
abbrev pub run_text : Report → List ℕ
run_text report =
    spaced_line (codes "frames" ∷ decimal report.frames ∷ [])
    ++ spaced_line (codes "kept" ∷ decimal report.kept ∷ [])
    ++ spaced_line (codes "rendered" ∷ decimal report.rendered ∷ [])

-- the frames of the reel, the range of the part, and of the range those that were acknowledged at the opening and the rendered
-- ones, which make it up
abbrev pub part_text : FrameRange → Report → List ℕ
part_text range report =
    spaced_line (codes "frames" ∷ decimal report.frames ∷ [])
    ++ spaced_line (codes "part" ∷ decimal range.low ∷ decimal range.high ∷ [])
    ++ spaced_line (codes "kept" ∷ decimal (range.high - range.low - report.rendered) ∷ [])
    ++ spaced_line (codes "rendered" ∷ decimal report.rendered ∷ [])

abbrev pub report_text : Extent → FrameRange → Report → List ℕ
report_text Whole range report = run_text report
report_text (Part part parts) range report = part_text range report

-- the name of a reel by its place
abbrev pub name_in : List ReelEntry → ℕ → List ℕ
name_in entries reel = unwrap_or (option_map (λ (e : ReelEntry). e.name) (slice_get entries reel)) []

-- the outcome of a run that ended so
abbrev pub outcome_of_end : List ReelEntry → RunEnd → Outcome
outcome_of_end entries ends.Done = outcome.Done
outcome_of_end entries (ends.OtherJob kept wanted) = outcome.OtherJob kept wanted
outcome_of_end entries (ends.BadLedger len) = outcome.BadLedger len
outcome_of_end entries (ends.Changed key was now) = outcome.Changed (name_in entries key.reel) key was now
outcome_of_end entries ends.SourceFault = outcome.SourceFault
outcome_of_end entries ends.DiskFault = outcome.DiskFault
outcome_of_end entries ends.NoMemory = outcome.NoMemory

-- What a run that ended so and has that to report comes to: the outcome of its end, or want of memory for the report.
pub record ReportsEnd (job : JobData) (how : RunEnd) (text : List ℕ) (reached : Outcome) (output : List ℕ) : Type 0 where
  pub reached_is : (reached ≡ outcome_of_end job.parts.reels how) ⊎ (reached ≡ outcome.NoMemory)
  pub form : reached ≡ outcome.Done → output ≡ text

-- a source file that changed is one that the job has
abbrev pub IsKnown : JobData → RunEnd → Type 0
IsKnown job (ends.Changed key was now) = info_at job.infos key ≡ Some was
IsKnown job other = Unit {0}

-- The job was run in the folder, over a range of its frames.
pub record IsJobRun (job : JobData) (extent : Extent) (range : FrameRange) (share : ℕ) (told : Option World)
    (loads loads_after : ℕ) (disk disk_after : FolderState) (reached : Outcome) (output : List ℕ) : Type 0 where
  pub how : RunEnd
  pub report : Report
  pub reply : ReportsEnd job how (report_text extent range report) reached output
  pub frames : report.frames ≡ frames_of job
  -- what the folder acknowledged and does now, what was rendered, and what was asked for and loaded, with a share of so many
  -- frames; or why the folder was not opened
  pub log : List ShareStep
  pub ran : WasRun job range.low range.high told share disk.tells disk.history disk_after.history how report log
  pub keeps : IsSafeRun job range told how disk disk_after
  pub loaded : loads_after ≡ count_after report.loads loads
  -- a source file that changed was loaded
  pub changed : IsChange how → HasRisen loads loads_after

-- The project came to this job, which was run in the folder, as far as it was asked for.
pub record RanItsJob (told : Option World) (path : List ℕ) (extent : Extent) (share : ℕ) (disk disk_after : FolderState)
    (loads loads_after : ℕ) (reached : Outcome) (output : List ℕ) : Type 0 where
  pub job : JobData
  pub comes : HasComeTo told path (Ok job)
  -- the loads when it was planned
  pub planned : ℕ
  pub texts : planned ≡ count_after (2 + cube_count job.parts.project.cube) loads
  pub ran : IsJobRun job extent (range_of extent (frames_of job)) share told planned loads_after disk disk_after reached output

-- The project came to no job, and the folder is as it was.
pub record IsUnplanned (told : Option World) (path : List ℕ) (disk disk_after : FolderState) (loads loads_after : ℕ)
    (reached : Outcome) : Type 0 where
  pub why : HasComeTo told path (Err reached)
  pub kind : IsOfJob reached
  pub untouched : disk_after ≡ disk
  pub texts : AreLoaded 1 3 loads loads_after
  -- of a refused one the files up to the one that has the fault
  pub refused : HasLoadedFor told path loads loads_after reached

abbrev pub IsRunReply : List ℕ → Extent → (share : ℕ) → Option World → (loads loads_after : ℕ)
    → (disk disk_after : FolderState) → Outcome → List ℕ → Type 0
IsRunReply path extent share told loads loads_after disk disk_after reached output =
    RanItsJob told path extent share disk disk_after loads loads_after reached output
    ⊎ IsUnplanned told path disk disk_after loads loads_after reached

-- the outcomes that a run of a job may come to in place of Done
abbrev pub IsOfRun : Outcome → Type 0
IsOfRun outcome.Done = ⊥
IsOfRun outcome.Usage = ⊥
IsOfRun (outcome.OldRefused refusal) = ⊥
IsOfRun (outcome.OldOtherJob kept wanted) = ⊥
IsOfRun (outcome.OldBadLedger len) = ⊥
IsOfRun (outcome.Damaged frame kept found) = ⊥
IsOfRun (outcome.SinkFault instead) = ⊥
IsOfRun other = Unit {0}
