-- What a run on one thread promises: words of private clauses.
--     IsJustOpened      a reel whose folder was just opened
--     HasRunFrame      what the work on one frame makes of an open reel
--     HasRunOver      what a run over the frames of an open reel makes of it
--     HasRunThrough      what is known of it, and of what it did, once its disk is handed back
use Rattle.std.specs.Prelude.{◌≡◌, ◌≢◌, ◌⊎◌, ◌↔◌, ℕ, ◌<◌, ◌≤◌, Bool, true, false, List, [], length, take, Contains, slice_index_or, Option, Result, Err, OnOk, OnErr}
use Rattle.cf_base.specs.declared.file.FileId.{FileId}
use Rattle.cf_base.specs.declared.file.FileId.TheVariants.{Body2}
use Rattle.reel_disk.specs.Call.{OnlyWrites}
use Rattle.reel_disk.specs.State.{DiskState, LeavesDisk}
use Rattle.scan_source.specs.World.{World}
use Rattle.conform_job.specs.Job.{JobData, file_of}
use Rattle.reel_disk.specs.Disk.{History, moment_of, view_of}
use Rattle.reel_disk.specs.Runs.{Spares}
use Rattle.frame_range.specs.declared.range.FrameRange.{FrameRange}
use Rattle.frame_share.specs.declared.step.ShareStep.{ShareStep}
use Rattle.reel_writer.specs.Reel.{frames_of, HasAcked, IsRunFile, IsWrittenFile, IsReelRun, KeepsReel}
use Rattle.reel_writer.specs.View.{ReelView}
use Rattle.run_alone.specs.Asks.{IsNext, closed_frames}
use Rattle.run_alone.specs.inside.Ran.{IsPast, IsUnfinished}
use Rattle.frame_fetch.specs.declared.run_end.RunEnd.{RunEnd}
use Rattle.frame_fetch.specs.declared.run_end.RunEnd.TheVariants.{Done, DiskFault}
use Rattle.run_alone.specs.Ends.{IsEnd}
use Rattle.run_alone.specs.Ran.{WereFinished}
use Rattle.run_alone.specs.Sharing.{WereShared}
use Rattle.run_alone.specs.Run.{AcksAtExit, AcksFinished, AreAllAcked}
use Rattle.run_alone.specs.declared.report.Report.{Report}

-- A gate is open just where it was before, or its frame is one of these.
abbrev pub AreOpened : (before : List Bool) → (finished : List ℕ) → (after : List Bool) → Type 0
AreOpened before finished after = (k : ℕ) → slice_index_or after k false ≡ true
    ↔ ((slice_index_or before k false ≡ true) ⊎ Contains finished k)

-- So it is of each frame but the next one, whose finish failed.
abbrev pub AcksButNext : JobData → (low high : ℕ) → (gates : List Bool) → (finished : List ℕ) → History → Type 0
AcksButNext job low high gates finished new = (k : ℕ)
    → (IsNext gates low high (length finished) k → ⊥) → AcksFinished job gates finished new k

-- of all frames but i the folder acknowledges just those whose gate is open
abbrev pub AcksOpenBut : ℕ → JobData → (gates : List Bool) → History → Type 0
AcksOpenBut i job gates new = (k : ℕ) → k ≢ i
    → HasAcked job k (view_of new) ↔ (slice_index_or gates k false ≡ true)

-- what a run over a range writes once the folder is open: the ledger's body, and the files of the range's frames whose gate
-- is closed
abbrev pub IsRangeFile : JobData → (low high : ℕ) → List Bool → FileId → Type 0
IsRangeFile job low high gates q = (q ≡ Body2)
    ⊎ ((i : ℕ) × (low ≤ i) × (i < high) × (slice_index_or gates i false ≡ false) × (q ≡ file_of job i))

-- It has a gate for each frame, and nothing is finished yet.
pub record IsJustOpened {D : Type 0} (job : JobData) (reel : ReelView D) : Type 0 where
  pub is_open : reel.ledger.closed ≡ false
  pub size : length reel.ledger.gates ≡ frames_of job
  pub unfinished : reel.acks ≡ []

-- What the work on frame i, whose gate was closed, makes of an open reel: the frame is finished, or no frame is where the
-- work ended early. No file is written but the frame's and the ledger's.
pub record HasRunFrame {D R : Type 0} (i : ℕ) (job : JobData) (told : Option World) (tells : Bool) (state : D → DiskState)
    (result : Result R RunEnd) (old new : ReelView D) : Type 0 where
  pub fresh : slice_index_or old.ledger.gates i false ≡ false
  pub past : OnOk result (IsPast i old new)
  pub unfinished : OnErr result (IsUnfinished old new)
  pub stays_open : result ≢ Err DiskFault → new.ledger.closed ≡ false
  pub failed : tells ≡ true → result ≡ Err DiskFault
      → AcksOpenBut i job old.ledger.gates (state new.disk).history
  pub run : tells ≡ true → IsReelRun job told (state old.disk).history (state new.disk).history
  pub none_lost : tells ≡ true → KeepsReel job (state old.disk).history (state new.disk).history
  pub spares : tells ≡ true
      → Spares (state old.disk).history (state new.disk).history (IsWrittenFile (file_of job i))
  pub own : OnlyWrites (IsWrittenFile (file_of job i)) (state old.disk).calls (state new.disk).calls
  pub disk : LeavesDisk (result ≡ Err DiskFault) (state old.disk) (state new.disk)

-- What a run over a range of frames of an open reel makes of it, until it ends so. It finished so many of the
-- frames whose gate was closed, in their order, and wrote no file but theirs and the ledger's.
pub record HasRunOver {D : Type 0} (job : JobData) (low high : ℕ) (told : Option World) (tells : Bool) (state : D → DiskState)
    (end : RunEnd) (old new : ReelView D) : Type 0 where
  pub is_end : IsEnd job told end
  pub acks : new.acks ≡ take (length new.acks) (closed_frames old.ledger.gates low high)
  pub gates : AreOpened old.ledger.gates new.acks new.ledger.gates
  pub kept : new.kept ≡ old.kept
  pub stays_open : end ≢ DiskFault → new.ledger.closed ≡ false
  pub failed : tells ≡ true → end ≡ DiskFault
      → AcksButNext job low high old.ledger.gates new.acks (state new.disk).history
  pub run : tells ≡ true → IsReelRun job told (state old.disk).history (state new.disk).history
  pub spares : tells ≡ true
      → Spares (state old.disk).history (state new.disk).history (IsRangeFile job low high old.ledger.gates)
  pub own : OnlyWrites (IsRunFile job low high) (state old.disk).calls (state new.disk).calls
  pub disk : LeavesDisk (end ≡ DiskFault) (state old.disk) (state new.disk)

-- What a run over a range of frames did, from the gates of its opening on, and what it left in the folder.
pub record HasRunThrough (job : JobData) (range : FrameRange) (told : Option World) (share : ℕ) (tells : Bool) (gates : List Bool)
    (end : RunEnd) (report : Report) (log : List ShareStep) (before after : DiskState) : Type 0 where
  pub is_end : IsEnd job told end
  pub finished : WereFinished job range.low range.high gates end report.rendered log
  pub shared : WereShared share log report
  pub exit : tells ≡ true → AcksAtExit job range.low range.high gates end report.rendered after.history
  pub acked : end ≡ Done → tells ≡ true → AreAllAcked job range.low range.high (moment_of after.history)
  pub run : tells ≡ true → IsReelRun job told before.history after.history
  pub spares : tells ≡ true → Spares before.history after.history (IsRangeFile job range.low range.high gates)
  pub own : OnlyWrites (IsRunFile job range.low range.high) before.calls after.calls
