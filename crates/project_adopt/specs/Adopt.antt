-- The command `adopt`: the reel of a project's job in the reel folder, with frames of an old project's reel taken over and the
-- rest rendered. All of it is this project's own rule.
-- * `adopt`: the project came to a job, and then the old one: frames of the old folder were taken over, and the rest was run as
--   by `run`, with the crash promise of both together; or one of the two came to no job, and both folders are as they were. No
--   moment changed the old folder
-- * sound old folder: each frame that the old folder acknowledges is the old job's, over these source files: the premise of the
--   part of the crash promise that speaks of them
--     IsAdoptReply      the project came to a job, or to none
--     GoesOn      then so did the old one, or to none
--     HasAdopted      both came to a job: frames were taken over, the rest was run, and the crash promise of both together
--     OnDisks, Ends      what a call made of both folders, and what it came to
--     IsOldSound, IsOldSoundIn      what that promise has as a premise where it speaks of the source files
use Rattle.std.specs.Prelude.{◌≡◌, ◌⊎◌, ℕ, ◌+◌, Bool, true, List, [], ◌∷◌, ◌++◌, codes, decimal, Option, None, IfSome, Result, Ok, MatchResult}
use Rattle.scan_source.specs.World.{World, file_at}
use Rattle.conform_job.specs.Answers.{count_after}
use Rattle.conform_job.specs.Job.{JobData}
use Rattle.reel_disk.specs.Call.{OnlyWrites}
use Rattle.reel_disk.specs.Disk.{Files, moment_of, view_of}
use Rattle.reel_disk.specs.Runs.{Spares}
use Rattle.reel_disk.specs.State.{DiskState, FolderState, OnDisk}
use Rattle.resume_ledger.specs.Ledger.{IsInForce}
use Rattle.resume_ledger.specs.Sound.{IsSound, WritesOnly}
use Rattle.resume_ledger.specs.declared.layout.Version.TheVariants.{Two}
use Rattle.reel_writer.specs.Reel.{frames_of, reel_of, HasFrameFiles, IsReelRun, IsSoundReel}
use Rattle.reconform.specs.Adopt.{AdoptionMayWrite, HasAnswered, IsOfOld}
use Rattle.reconform.specs.Taken.{TakesOver}
use Rattle.reconform.specs.declared.adopting.Adopted.{Adopted}
use Rattle.reconform.specs.declared.adopting.AdoptFault.{AdoptFault}
use Rattle.reconform.specs.declared.adopting.AdoptFault.TheVariants as fault
use Rattle.reel_writer.specs.Changes.{IsOwnFile, MayWrite}
use Rattle.run_alone.specs.Run.{AreAllAcked, HasWhole}
use Rattle.run_alone.specs.declared.report.Report.{Report}
use Rattle.printed_text.specs.Text.{spaced_line}
use Rattle.outcome.specs.declared.Outcome.{Outcome}
use Rattle.outcome.specs.declared.Outcome.TheVariants as outcome
use Rattle.project_job.specs.Jobs.{cube_count}
use Rattle.project_job.specs.Texts.{HasComeTo}
use Rattle.project_run.specs.Calls.{WasOnlyRead}
use Rattle.frame_range.specs.Parts.{range_of}
use Rattle.frame_range.specs.declared.range.Extent.TheVariants.{Whole}
use Rattle.project_run.specs.Run.{IsJobRun, IsOfRun, IsUnplanned}

-- the frames of the reel, those that were acknowledged at the opening, those that were taken over, and the rendered ones
abbrev pub adopt_text : Adopted → Report → List ℕ
adopt_text done report =
    spaced_line (codes "frames" ∷ decimal report.frames ∷ [])
    ++ spaced_line (codes "kept" ∷ decimal done.kept ∷ [])
    ++ spaced_line (codes "adopted" ∷ decimal done.adopted ∷ [])
    ++ spaced_line (codes "rendered" ∷ decimal report.rendered ∷ [])

-- the outcome of an old project that came to no job
abbrev pub of_old_project : Outcome → Outcome
of_old_project (outcome.Refused refusal) = outcome.OldRefused refusal
of_old_project other = other

-- the outcome of an adoption that didn't come to its end
abbrev pub outcome_of_fault : AdoptFault → Outcome
outcome_of_fault (fault.OldOtherJob kept wanted) = outcome.OldOtherJob kept wanted
outcome_of_fault (fault.OldBadLedger len) = outcome.OldBadLedger len
outcome_of_fault (fault.OtherJob kept wanted) = outcome.OtherJob kept wanted
outcome_of_fault (fault.BadLedger len) = outcome.BadLedger len
outcome_of_fault fault.DiskFault = outcome.DiskFault
outcome_of_fault fault.NoMemory = outcome.NoMemory

-- Each frame that the old folder acknowledges is the old job's, over these source files.
abbrev pub IsOldSound : JobData → World → Files → Type 0
IsOldSound old world files = IsSound old.parts.digest (frames_of old) (reel_of old (file_at world)) files

-- the same over the source files that are told
abbrev pub IsOldSoundIn : Option World → JobData → Files → Type 0
IsOldSoundIn told old files = IfSome told (λ world. IsOldSound old world files)

-- how many decoded source frames a run of the command shares
abbrev pub share_count : ℕ
share_count = 8

-- The rest was run in the folder as `run` does, and its report put with the number of frames that were taken over.
pub record IsRest (job : JobData) (done : Adopted) (told : Option World) (loads loads_after : ℕ)
    (disk disk_after : FolderState) (reached : Outcome) (output : List ℕ) : Type 0 where
  -- what `run` would have put
  pub run_output : List ℕ
  pub run : IsJobRun job Whole (range_of Whole (frames_of job)) share_count told loads loads_after disk disk_after reached run_output
  pub form : reached ≡ outcome.Done → output ≡ adopt_text done run.report

-- The adoption didn't come to its end, and nothing was loaded or written after it.
pub record IsUnadopted (why : AdoptFault) (disk disk_after : FolderState) (loads loads_after : ℕ) (reached : Outcome) : Type 0 where
  pub reached_is : reached ≡ outcome_of_fault why
  pub unchanged : disk_after ≡ disk
  pub unloaded : loads_after ≡ loads

-- what a call made of the old folder and of the new one, as `OnDisk` says it of one
abbrev pub OnDisks : {A : Type 1} → Bool → (old old_after disk disk_after : DiskState)
    → (FolderState → FolderState → FolderState → FolderState → A) → A
OnDisks tells old old_after disk disk_after Made = OnDisk tells disk disk_after (OnDisk tells old old_after Made)

-- The crash promise. At every moment each frame that a crash leaves acknowledged is the definition's, and no acknowledgement
-- is lost; at Done the folder has the whole reel.
pub record IsPromised (job : JobData) (told : Option World) (disk disk_after : FolderState) (reached : Outcome) : Type 0 where
  pub run : IsReelRun job told disk.history disk_after.history
  pub whole : reached ≡ outcome.Done → HasWhole job 0 (frames_of job) told disk.history disk_after.history

-- Frames of the old folder were taken over into the new one, as far as they have an intact donor, and the rest was run.
pub record IsAdoption (job old_job : JobData) (told : Option World) (loads loads_after : ℕ)
    (old old_after disk disk_after : FolderState) (reached : Outcome) (output : List ℕ) : Type 0 where
  -- what the adoption came to, and the new folder behind it
  pub adopted : Result Adopted AdoptFault
  pub between : FolderState
  pub tells : between.tells ≡ disk.tells
  pub answer : HasAnswered job old_job disk.tells old.history old_after.history disk.history between.history adopted
  pub went : MatchResult adopted
      (λ done. IsRest job done told loads loads_after between disk_after reached output)
      (λ why. IsUnadopted why between disk_after loads loads_after reached)
  -- at its end the new folder is of version 2, so the run keeps all that it acknowledges
  pub sealed : MatchResult adopted (λ done. disk.tells ≡ true → IsInForce Two (view_of between.history)) (λ why. Unit {0})
  -- a refusal of the old folder leaves the new one as it was
  pub untouched : MatchResult adopted (λ done. Unit {0}) (λ why. IsOfOld why → disk_after ≡ disk)
  -- the old folder was read and nothing else
  pub reads : WasOnlyRead old old_after
  pub acked : reached ≡ outcome.Done → disk.tells ≡ true → AreAllAcked job 0 (frames_of job) (moment_of disk_after.history)
  -- what may have changed in the new one, and what was written, as in a run
  pub spares : disk.tells ≡ true → Spares disk.history disk_after.history (IsOwnFile job (view_of disk.history))
  pub writes : disk.tells ≡ true → WritesOnly disk.history disk_after.history (MayWrite job (view_of disk.history))
  -- by its calls, also where the disk tells nothing: no file but a run's, and none where a folder was refused
  pub own : OnlyWrites (AdoptionMayWrite job adopted) disk.calls disk_after.calls
  -- what was read of the old folder and written in the new one while frames were taken over
  pub taken : TakesOver job old_job old.calls old_after.calls disk.calls between.calls
  -- sound files lose none
  pub sound_has : (world : World) (files : Files) → IsSoundReel job world files → HasFrameFiles job files

-- The project at the path came to this job.
pub record CameTo (told : Option World) (path : List ℕ) (job : JobData) (loads loads_after : ℕ) : Type 0 where
  pub comes : HasComeTo told path (Ok job)
  pub texts : loads_after ≡ count_after (2 + cube_count job.parts.project.cube) loads

-- The old project came to this job, frames were taken over, and the rest was run.
pub record HasAdopted (job : JobData) (told : Option World) (old_path : List ℕ) (old old_after disk disk_after : FolderState)
    (loads loads_after : ℕ) (reached : Outcome) (output : List ℕ) : Type 0 where
  pub old_job : JobData
  -- the loads when it was planned
  pub planned : ℕ
  pub came : CameTo told old_path old_job loads planned
  pub went : IsAdoption job old_job told planned loads_after old old_after disk disk_after reached output
  -- the crash promise; where the old folder may hold anything, nothing is said of the source files
  pub promise : disk.tells ≡ true → IsPromised job None disk disk_after reached
  pub sound : disk.tells ≡ true → IsOldSoundIn told old_job (view_of old.history) → IsPromised job told disk disk_after reached

-- The old project came to no job, and both folders are as they were.
pub record HasNoOldJob (told : Option World) (old_path : List ℕ) (old old_after disk disk_after : FolderState)
    (loads loads_after : ℕ) (reached : Outcome) : Type 0 where
  -- what it came to
  pub found : Outcome
  pub reached_is : reached ≡ of_old_project found
  pub unplanned : IsUnplanned told old_path disk disk_after loads loads_after found
  pub untouched : old_after ≡ old

-- what the command comes to once its project came to this job
abbrev pub GoesOn : JobData → (old_path : List ℕ) → Option World → (loads loads_after : ℕ)
    → (old old_after disk disk_after : FolderState) → Outcome → List ℕ → Type 0
GoesOn job old_path told loads loads_after old old_after disk disk_after reached output =
    HasAdopted job told old_path old old_after disk disk_after loads loads_after reached output
    ⊎ HasNoOldJob told old_path old old_after disk disk_after loads loads_after reached

-- The project came to a job, and then the old one was looked at.
pub record HasJob (told : Option World) (path old_path : List ℕ) (old old_after disk disk_after : FolderState)
    (loads loads_after : ℕ) (reached : Outcome) (output : List ℕ) : Type 0 where
  pub job : JobData
  -- the loads when it was planned
  pub planned : ℕ
  pub came : CameTo told path job loads planned
  pub went : GoesOn job old_path told planned loads_after old old_after disk disk_after reached output

-- The project came to no job. Both folders are as they were, and the old project was not looked at.
pub record HasNoJob (told : Option World) (path : List ℕ) (old old_after disk disk_after : FolderState)
    (loads loads_after : ℕ) (reached : Outcome) : Type 0 where
  pub unplanned : IsUnplanned told path disk disk_after loads loads_after reached
  pub untouched : old_after ≡ old

abbrev pub IsAdoptReply : (path old_path : List ℕ) → Option World → (loads loads_after : ℕ)
    → (old old_after disk disk_after : FolderState) → Outcome → List ℕ → Type 0
IsAdoptReply path old_path told loads loads_after old old_after disk disk_after reached output =
    HasJob told path old_path old old_after disk disk_after loads loads_after reached output
    ⊎ HasNoJob told path old old_after disk disk_after loads loads_after reached

-- the outcomes that it may come to in place of Done
abbrev pub IsOfAdopt : Outcome → Type 0
IsOfAdopt (outcome.OldRefused refusal) = Unit {0}
IsOfAdopt (outcome.OldOtherJob kept wanted) = Unit {0}
IsOfAdopt (outcome.OldBadLedger len) = Unit {0}
IsOfAdopt other = IsOfRun other
