-- What a crew leaves. All of it is this project's own rule.
-- * crew: the steps of its board and how the run ended by them; the log of what its workers shared; which frames its opening
--   kept, and what the folder acknowledges now; what was done with each scan; why there are no steps
--     TookSteps      a run whose folder was opened and whose board was made: its steps, which frames its opening kept, and what
--                    the folder acknowledges
--     WasUnmade      a run whose board or share could not be made
--     IsReported      what a crew reports
--     AreShared      the log of the source frames that the workers shared
--     AreWorked      what the workers did with their scans
--     IsFirstUse      a disk before its first call
use Rattle.std.specs.Prelude.{◌≡◌, ◌↔◌, ◌⊎◌, ℕ, ◌+◌, ◌-◌, ◌<◌, ◌≤◌, Bool, true, false, List, [], length, sum_by, count_by, slice_index_or, Option, Some, None, MatchOption}
use Rattle.cf_base.specs.declared.limits.TheConstants.{WORKERS}
use Rattle.scan_source.specs.State.{ScanState}
use Rattle.scan_source.specs.World.{World}
use Rattle.conform_job.specs.Job.{JobData}
use Rattle.frame_share.specs.declared.step.ShareStep.{ShareStep}
use Rattle.frame_share.specs.Share.{IsLegal as IsShareLegal, misses_of}
use Rattle.cf_base.specs.Loan.{Loan}
use Rattle.reel_disk.specs.Call.{Call}
use Rattle.reel_disk.specs.Disk.{History, Moment, view_of}
use Rattle.reel_disk.specs.Start.{start_of}
use Rattle.reel_disk.specs.State.{DiskState}
use Rattle.render_board.specs.Board.{Log, IsLegal, has_stop, is_done}
use Rattle.render_board.specs.History.{finished_of, first_why, is_disk, stops_of}
use Rattle.render_board.specs.declared.step.Step.{Step}
use Rattle.render_board.specs.declared.step.Why.{Why}
use Rattle.render_board.specs.declared.step.Why.TheVariants.{Source, Disk, Memory, Changed}
use Rattle.resume_ledger.specs.Ledger.{IsFit}
use Rattle.reel_writer.specs.Changes.{HasKept}
use Rattle.reel_writer.specs.Reel.{frames_of, HasAcked}
use Rattle.run_alone.specs.declared.report.Report.{Report}
use Rattle.frame_fetch.specs.Ends.{IsChange}
use Rattle.frame_fetch.specs.declared.run_end.RunEnd.{RunEnd}
use Rattle.frame_fetch.specs.declared.run_end.RunEnd.TheVariants.{Done, Changed as IsNow, SourceFault, DiskFault, NoMemory}
use Rattle.run_alone.specs.Ends.{IsEnd}
use Rattle.run_alone.specs.Run.{WasUnopened, kept_in}
use Rattle.frame_fetch.specs.Scanned.{IsScannedAlone}
use Rattle.station.specs.Needed.{needed_by}
use Rattle.station.specs.Station.{ShowsDone}
use Rattle.run_crew.specs.declared.crew.Crew.{Crew}

-- A disk before its first call: the name tells what it holds, how it is lent, and that no call was made; and none has failed.
pub record IsFirstUse (held : Option Moment) (loans : List Loan) (calls : List Call) (tells : Bool) (disk : DiskState) : Type 0 where
  pub start : held ≡ start_of tells disk.history
  pub lent : loans ≡ disk.loans
  pub made : calls ≡ disk.calls
  pub moment : tells ≡ true → disk.history.now ≡ 0
  pub faults : disk.faults ≡ 0

-- how a run ends whose first stop has this why
abbrev pub end_by : Option Why → RunEnd
end_by None = Done
end_by (Some Source) = SourceFault
end_by (Some Disk) = DiskFault
end_by (Some Memory) = NoMemory
end_by (Some (Changed key was now)) = IsNow key was now

-- a board's log: the frames that were done at its start, the range, the number of workers, and the steps
abbrev pub log_of : List Bool → (low high : ℕ) → (workers : ℕ) → List Step → Log
log_of gates low high workers steps = record { start = gates; low = low; high = high; workers = workers; steps = steps }

-- The frames of the reel, a miss for each load, and a load at least where a source file has changed.
pub record IsReported (job : JobData) (end : RunEnd) (report : Report) : Type 0 where
  pub frames : report.frames ≡ frames_of job
  pub misses : report.misses ≡ report.loads
  pub changed : IsChange end → 1 ≤ report.loads

-- The log of what the workers shared, so many source frames at most: each answer is what the steps before it say, and each miss was
-- a load.
pub record AreShared (capacity : ℕ) (log : List ShareStep) (report : Report) : Type 0 where
  pub some : 1 ≤ capacity
  pub most : capacity ≤ WORKERS
  pub legal : IsShareLegal capacity log
  pub misses : report.misses ≡ misses_of log
  pub loads : report.loads ≡ report.misses

-- The folder was unsealed or this job's, the board of so many workers has these steps, and they shared so many source frames.
-- `gates` are the frames that the opening kept. The run is Done just where no worker stopped, and then every frame of the range
-- is done, and those of it that were kept and those that were rendered are the whole range; else it ends as the first stop says.
-- No more source frames were loaded than the frames need that its steps claim, each of them once.
pub record TookSteps (job : JobData) (low high : ℕ) (told : Option World) (workers share : ℕ) (tells : Bool)
    (old new : History) (steps : List Step) (end : RunEnd) (report : Report) (log : List ShareStep) : Type 0 where
  pub gates : List Bool
  pub size : length gates ≡ frames_of job
  pub opening : tells ≡ true → (k : ℕ) → (slice_index_or gates k false ≡ true) ↔ HasKept job k (view_of old)
  pub fit : tells ≡ true → IsFit job.parts.digest (frames_of job) (view_of old)
  pub legal : IsLegal (log_of gates low high workers steps)
  pub ends : end ≡ end_by (first_why steps)
  pub is_end : IsEnd job told end
  pub unstopped : (end ≡ Done) ↔ (has_stop steps ≡ false)
  pub all : end ≡ Done → (i : ℕ) → low ≤ i → i < high → is_done (log_of gates low high workers steps) i ≡ true
  pub kept : report.kept ≡ count_by (λ gate. gate) gates
  pub rendered : report.rendered ≡ length (finished_of steps)
  pub rest : end ≡ Done → kept_in low high gates + report.rendered ≡ high - low
  pub shared : AreShared share log report
  pub few : report.loads ≤ needed_by job steps
  -- The folder acknowledges just the frames that are done; where the disk failed in a finish, these but for one gate.
  pub exit : tells ≡ true → stops_of is_disk steps ≡ 0 → (k : ℕ) → HasAcked job k (view_of new)
      ↔ (is_done (log_of gates low high workers steps) k ≡ true)
  pub failed_exit : tells ≡ true → 1 ≤ stops_of is_disk steps → ShowsDone job (log_of gates low high workers steps) true (view_of new)

-- The folder was unsealed or this job's, and no memory was left for the board, for the share or for room. No worker took a
-- step, no source frame was asked for, and the folder acknowledges just the frames that the opening kept.
pub record WasUnmade (job : JobData) (tells : Bool) (old new : History) (end : RunEnd) (report : Report)
    (log : List ShareStep) : Type 0 where
  pub no_memory : end ≡ NoMemory
  pub fit : tells ≡ true → IsFit job.parts.digest (frames_of job) (view_of old)
  pub exit : tells ≡ true → (k : ℕ) → HasAcked job k (view_of new) ↔ HasKept job k (view_of old)
  pub kept : report.kept ≡ 0
  pub rendered : report.rendered ≡ 0
  pub loads : (report.loads ≡ 0) × (report.misses ≡ 0)
  pub unasked : log ≡ []

-- Why there are no steps: the folder was not opened, or the board could not be made.
abbrev pub TookNoSteps : JobData → Bool → History → History → RunEnd → Report → List ShareStep → Type 0
TookNoSteps job tells old new end report log =
    WasUnopened job tells old new end report log ⊎ WasUnmade job tells old new end report log

-- the disk failed: a worker stopped for it, or the folder could not be opened
abbrev pub HasDiskFailed : Option (List Step) → RunEnd → Type 0
HasDiskFailed steps end = MatchOption steps (end ≡ DiskFault) (λ all. 1 ≤ stops_of is_disk all)

-- Each scan is handed back in its place, with so many loads made of it, and all those past the workers unused. In some a load
-- failed, which is the last of that scan: in one of them at least, where the run ended so.
pub record AreWorked {S : Type 0} (state : S → ScanState)
    (workers all : ℕ) (Failed : Type 0) (old new : List S) : Type 0 where
  pub size : length new ≡ length old
  -- how many loads were made of each, and whether one of them failed
  pub counts : List ℕ
  pub flags : List Bool
  pub sum : sum_by (λ count. count) counts ≡ all
  pub each : (k : ℕ) (scan : S) → k < length old → IsScannedAlone (slice_index_or counts k 0)
      (slice_index_or flags k false ≡ true) (state (slice_index_or old k scan)) (state (slice_index_or new k scan))
  pub unused : (k : ℕ) (scan : S) → workers ≤ k → slice_index_or new k scan ≡ slice_index_or old k scan
  pub failed : Failed → (k : ℕ) × (k < length old) × (slice_index_or flags k false ≡ true)

module _ {S D : Type 0} where
  -- the steps that a crew took and what came of them, or why there are none
  abbrev pub WasRunByCrew : JobData → (low high : ℕ) → (told : Option World) → (workers share : ℕ) → (tells : Bool)
      → (old new : History) → Crew S D → Type 0
  WasRunByCrew job low high told workers share tells old new crew =
      MatchOption crew.history (TookNoSteps job tells old new crew.end crew.report crew.log)
      (λ steps. TookSteps job low high told workers share tells old new steps crew.end crew.report crew.log)

  -- what was done with the scans of a crew, which are handed back: a load of one failed, where the run ended by a source file
  abbrev pub HasScansBack : (state : S → ScanState)
      → (workers : ℕ) → (old : List S) → Crew S D → Type 0
  HasScansBack state workers old crew =
      AreWorked state workers crew.report.loads (crew.end ≡ SourceFault) old crew.scans.items

-- The rest is said of parts of a crew's run.
