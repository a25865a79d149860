-- What an adoption promises. All of it is this project's own rule.
-- * adoption: what the old folder has to be where the source files are told; which frames are acknowledged at the end: those
--   that the opening kept, and those with an intact donor; why there was none, the old folder's refusal first; what the call
--   leaves of both disks: how they are lent, and their counts, where a fault has its cause
--     CanServe      what the old folder has to be, where the source files are told
--     WasAdopted      which frames are acknowledged at the end, and how many of them were adopted
--     IsWhyUnadopted      why there was no adoption
--     LeavesBoth      what a call leaves of the two disks, whatever it comes to
--     AdoptionMayWrite      which files it may write over any disk
--     IsSafeAdoption      what it keeps in the new folder at each moment, the opening among it
use Rattle.std.specs.Prelude.{◌≡◌, ◌≢◌, ◌⊎◌, ◌↔◌, ℕ, ◌+◌, ◌<◌, ◌≤◌, Bool, true, false, List, count_by, slice_index_or, Option, Result, Ok, Err}
use Rattle.cf_base.specs.Count.{HasRisen}
use Rattle.scan_source.specs.World.{World, file_at}
use Rattle.conform_job.specs.Job.{JobData}
use Rattle.cf_base.specs.declared.file.FileId.{FileId}
use Rattle.reel_disk.specs.Call.{OnlyWrites}
use Rattle.reel_disk.specs.Disk.{Files, History, view_of}
use Rattle.reel_disk.specs.Runs.{Spares}
use Rattle.reel_disk.specs.State.{DiskState}
use Rattle.resume_ledger.specs.Attach.{IsOtherJob, IsBadLedger}
use Rattle.resume_ledger.specs.Ledger.{IsFit, AreFlagsOf}
use Rattle.resume_ledger.specs.Look.{ViewState, IsViewOf}
use Rattle.resume_ledger.specs.Sound.{IsSound, WritesOnly}
use Rattle.reel_writer.specs.Changes.{HasKept, IsOwnFile, MayWrite}
use Rattle.reel_writer.specs.Reel.{frames_of, reel_of, HasFrameFiles, IsReelRun, IsRunFile, IsSoundReel}
use Rattle.reconform.specs.Donor.{HasIntactDonor}
use Rattle.reconform.specs.declared.adopting.Adopted.{Adopted}
use Rattle.reconform.specs.declared.adopting.AdoptFault.{AdoptFault}
use Rattle.reconform.specs.declared.adopting.AdoptFault.TheVariants.{OldOtherJob, OldBadLedger, OtherJob, BadLedger, DiskFault, NoMemory}

-- jobs with one cube have one look
abbrev pub HaveOneLook : JobData → JobData → Type 0
HaveOneLook new old = new.parts.project.cube ≡ old.parts.project.cube → new.parts.look ≡ old.parts.look

-- Over these source files each frame that the old folder acknowledges is the old job's.
pub record CanServe (new old : JobData) (world : World) (tells : Bool) (files : Files) : Type 0 where
  pub told : tells ≡ true
  pub sound : IsSound old.parts.digest (frames_of old) (reel_of old (file_at world)) files
  pub look : HaveOneLook new old

-- the new folder was unsealed or the new job's, and its opening kept these frames
pub record WasOpenedWith (new : JobData) (before : Files) (kept : List Bool) : Type 0 where
  pub fit : IsFit new.parts.digest (frames_of new) before
  pub kept_are : (k : ℕ) → (slice_index_or kept k false ≡ true)
      ↔ HasKept new k before

-- Of the new folder's frames just these are acknowledged now, by the new job's ledger: those that its opening kept, and those
-- that have an intact donor in the old folder. `kept` counts the first, and `adopted` the rest.
pub record WasAdopted (new old : JobData) (tells : Bool) (old_files before after : Files) (done : Adopted) : Type 0 where
  pub view : ViewState
  pub looked : tells ≡ true → IsViewOf old.parts.digest (frames_of old) old_files view
  pub kept : List Bool
  pub opened : tells ≡ true → WasOpenedWith new before kept
  pub acked : List Bool
  pub exit : tells ≡ true → AreFlagsOf new.parts.digest (frames_of new) after acked
  pub fit : tells ≡ true → IsFit new.parts.digest (frames_of new) after
  pub exactly : tells ≡ true → (k : ℕ) → k < frames_of new
      → (slice_index_or acked k false ≡ true)
      ↔ ((slice_index_or kept k false ≡ true) ⊎ HasIntactDonor new old view old_files k)
  pub kept_is : done.kept ≡ count_by (λ gate. gate) kept
  pub adopted_is : done.kept + done.adopted ≡ count_by (λ gate. gate) acked

-- Why there was no adoption: first what is wrong with the old folder, by 20.1 and 20.2, and then with the new one.
abbrev pub IsWhyUnadopted : JobData → JobData → Bool → (old old_after before after : History) → AdoptFault → Type 0
IsWhyUnadopted new old tells h h_after before after (OldOtherJob kept wanted) = (kept ≢ wanted) × (wanted ≡ old.parts.digest)
    × (tells ≡ true → IsOtherJob old.parts.digest kept wanted h h_after)
IsWhyUnadopted new old tells h h_after before after (OldBadLedger len) = tells ≡ true
    → IsBadLedger old.parts.digest (frames_of old) len h h_after
IsWhyUnadopted new old tells h h_after before after (OtherJob kept wanted) = (kept ≢ wanted) × (wanted ≡ new.parts.digest)
    × (tells ≡ true → IsFit old.parts.digest (frames_of old) (view_of h) × IsOtherJob new.parts.digest kept wanted before after)
IsWhyUnadopted new old tells h h_after before after (BadLedger len) = tells ≡ true
    → IsFit old.parts.digest (frames_of old) (view_of h) × IsBadLedger new.parts.digest (frames_of new) len before after
IsWhyUnadopted new old tells h h_after before after DiskFault = Unit {0}
IsWhyUnadopted new old tells h h_after before after NoMemory = Unit {0}

-- The answer of an adoption.
abbrev pub HasAnswered : JobData → JobData → Bool → (old old_after before after : History) → Result Adopted AdoptFault → Type 0
HasAnswered new old tells h h_after before after (Ok done) = WasAdopted new old tells (view_of h) (view_of before) (view_of after) done
HasAnswered new old tells h h_after before after (Err fault) = IsWhyUnadopted new old tells h h_after before after fault

-- a refusal of the old folder comes before the new one is touched
abbrev pub IsOfOld : AdoptFault → Type 0
IsOfOld (OldOtherJob kept wanted) = Unit {0}
IsOfOld (OldBadLedger len) = Unit {0}
IsOfOld (OtherJob kept wanted) = ⊥
IsOfOld (BadLedger len) = ⊥
IsOfOld DiskFault = ⊥
IsOfOld NoMemory = ⊥

-- The counts of faults of two disks never fall, and a failure has its cause in one of them.
pub record IsCaused (old_before old_after before after : ℕ) (Failed : Type 0) : Type 0 where
  pub old_later : old_before ≤ old_after
  pub later : before ≤ after
  pub failed : Failed → HasRisen old_before old_after ⊎ HasRisen before after

-- What a call leaves of two disks, the old one first. Both are lent as they were. A failure has its cause in the count of one of
-- them, and else both counts stay.
pub record LeavesBoth (Failed : Type 0) (old old_after disk disk_after : DiskState) : Type 0 where
  pub cause : IsCaused old.faults old_after.faults disk.faults disk_after.faults Failed
  pub steady : (Failed → ⊥) → disk_after.faults ≡ disk.faults
  pub old_steady : (Failed → ⊥) → old_after.faults ≡ old.faults
  pub lent : disk_after.loans ≡ disk.loans
  pub old_lent : old_after.loans ≡ old.loans

-- Which files an adoption may write over any disk, by what it comes to: those of a run, and none where a folder is refused.
abbrev pub AdoptionMayWrite : JobData → Result Adopted AdoptFault → FileId → Type 0
AdoptionMayWrite job (Ok done) q = IsRunFile job 0 (frames_of job) q
AdoptionMayWrite job (Err (OldOtherJob kept wanted)) q = ⊥
AdoptionMayWrite job (Err (OldBadLedger len)) q = ⊥
AdoptionMayWrite job (Err (OtherJob kept wanted)) q = ⊥
AdoptionMayWrite job (Err (BadLedger len)) q = ⊥
AdoptionMayWrite job (Err DiskFault) q = IsRunFile job 0 (frames_of job) q
AdoptionMayWrite job (Err NoMemory) q = IsRunFile job 0 (frames_of job) q

-- What an adoption does to the new folder: a crash at any moment leaves only frames acknowledged that are the reel's, and no
-- acknowledgement is lost where each frame that version 1 acknowledged had a file of a frame's length, as sound files have. No
-- file is changed but the ledger's and those of frames that the opening didn't keep, and of the ledger's those of version 2
-- alone are written.
pub record IsSafeAdoption (job : JobData) (told : Option World) (tells : Bool) (result : Result Adopted AdoptFault)
    (before after : DiskState) : Type 0 where
  pub run : tells ≡ true → IsReelRun job told before.history after.history
  pub sound_has : (world : World) (files : Files) → IsSoundReel job world files → HasFrameFiles job files
  pub spares : tells ≡ true → Spares before.history after.history (IsOwnFile job (view_of before.history))
  pub writes : tells ≡ true → WritesOnly before.history after.history (MayWrite job (view_of before.history))
  -- by its calls, also where the disk tells nothing
  pub own : OnlyWrites (AdoptionMayWrite job result) before.calls after.calls

-- The rest is said of the frames as they are taken in order.
