-- What each call on a station makes of it, and when it may be made.
-- * steps of a station: what a claim, a finish and a stop make of it, and when each may be made; what a finish leaves on the
--   disk
use Rattle.std.specs.Prelude.{◌≡◌, ◌↔◌, ℕ, ◌+◌, Bool, true, false, List, [], length, count_by, slice_index_or, Option, Some, IfSome}
use Rattle.reel_disk.specs.State.{DiskState}
use Rattle.scan_source.specs.World.{World}
use Rattle.conform_job.specs.Job.{JobData, file_of}
use Rattle.reel_disk.specs.Disk.{Moment, moment_of, view_of}
use Rattle.reel_disk.specs.Runs.{Spares, Surely}
use Rattle.reel_disk.specs.Start.{start_of, at_start}
use Rattle.resume_ledger.specs.Sound.{WritesOnly}
use Rattle.render_board.specs.Board.{Log, with_step, after_claim}
use Rattle.render_board.specs.declared.board.Claim.{Claim}
use Rattle.render_board.specs.declared.step.Step.TheVariants.{Finish, Stop}
use Rattle.render_board.specs.declared.step.Why.{Why}
use Rattle.render_board.specs.declared.step.Why.TheVariants.{Source, Disk, Memory, Changed}
use Rattle.reel_writer.specs.Changes.{HasKept}
use Rattle.reel_writer.specs.Reel.{frames_of, HasAcked, HasStored, IsReelRun}
use Rattle.reel_writer.specs.View.{ReelView, after_finish, after_fault}
use Rattle.frame_fetch.specs.Ends.{IsChanged}
use Rattle.frame_fetch.specs.declared.run_end.RunEnd.{RunEnd}
use Rattle.frame_fetch.specs.declared.run_end.RunEnd.TheVariants.{Done, OtherJob, BadLedger, Changed as IsNow, SourceFault, DiskFault, NoMemory}
use Rattle.station.specs.Station.{StationView, Totals, IsCrewFile, MayCrewWrite}

-- one more stop of this why
abbrev pub counted_by : Why → Totals → Totals
counted_by Source totals = record totals { source = totals.source + 1 }
counted_by Disk totals = record totals { disk = totals.disk + 1 }
counted_by Memory totals = record totals { memory = totals.memory + 1 }
counted_by (Changed key was now) totals = record totals { changed = totals.changed + 1 }

-- a stop that a worker makes by itself: not for the disk, and for a changed file only with what has changed
abbrev pub MayStop : JobData → Option World → Why → Type 0
MayStop job told Source = Unit {0}
MayStop job told Disk = ⊥
MayStop job told Memory = Unit {0}
MayStop job told (Changed key was now) = IsChanged job told key was now

-- why a worker stops that ends so
abbrev pub why_by : RunEnd → Why
why_by Done = Memory
why_by (OtherJob kept wanted) = Memory
why_by (BadLedger len) = Memory
why_by (IsNow key was now) = Changed key was now
why_by SourceFault = Source
why_by DiskFault = Disk
why_by NoMemory = Memory

-- What a finish leaves on the disk of a station.
module _ {D : Type 0} (job : JobData) (frame : ℕ) (state : D → DiskState) where
  -- the frame's file has these bytes
  abbrev pub ShowsFrame : (bytes : List ℕ) → StationView D → Type 0
  ShowsFrame bytes now = view_of (state now.reel.disk).history (file_of job frame) ≡ Some bytes

  -- whatever a crash leaves now, the frame is acknowledged
  abbrev pub IsSurelyAcked : StationView D → Type 0
  IsSurelyAcked now = Surely (moment_of (state now.reel.disk).history) (HasAcked job frame)

  -- and its file has these bytes
  abbrev pub IsSurelyStored : (bytes : List ℕ) → StationView D → Type 0
  IsSurelyStored bytes now = Surely (moment_of (state now.reel.disk).history) (HasStored (file_of job frame) bytes)

module _ {D : Type 0} where
  -- a reel and a board at the start of a run
  pub record IsBeginning (job : JobData) (told : Option World) (start : Option Moment) (tells : Bool)
      (state : D → DiskState) (reel : ReelView D) (log : Log) : Type 0 where
    pub began : start ≡ start_of tells (state reel.disk).history
    pub run : tells ≡ true → IsReelRun job told (at_start (state reel.disk).history) (state reel.disk).history
    pub spares : tells ≡ true → Spares (at_start (state reel.disk).history) (state reel.disk).history (IsCrewFile job log)
    pub writes : tells ≡ true → WritesOnly (at_start (state reel.disk).history) (state reel.disk).history (MayCrewWrite job log)
    pub none : reel.acks ≡ []
    pub is_open : reel.ledger.closed ≡ false
    pub sound_disk : (state reel.disk).faults ≡ 0
    pub first : log.steps ≡ []
    pub size : length log.start ≡ frames_of job
    pub kept : reel.kept ≡ count_by (λ was. was) log.start
    pub as_many : length reel.ledger.gates ≡ length log.start
    pub gates : (i : ℕ) → slice_index_or reel.ledger.gates i false ≡ slice_index_or log.start i false
    pub from : IfSome start (λ moment. (i : ℕ) → (slice_index_or log.start i false ≡ true) ↔ HasKept job i moment.view)
    pub shown : tells ≡ true → (i : ℕ) → HasAcked job i (view_of (state reel.disk).history) ↔ (slice_index_or log.start i false ≡ true)

  -- a claim changes the board alone
  abbrev pub after_claimed : StationView D → (worker : ℕ) → Claim → StationView D
  after_claimed v worker answer = record { reel = v.reel; log = after_claim v.log worker answer; totals = v.totals }

  -- the frame is acknowledged and done
  abbrev pub after_finished : StationView D → (worker frame : ℕ) → D → StationView D
  after_finished v worker frame disk = record {
    reel = after_finish v.reel frame disk;
    log = with_step v.log (Finish worker frame);
    totals = v.totals;
  }

  -- the disk failed: the reel is closed, and the worker has stopped
  abbrev pub after_failed : StationView D → (worker : ℕ) → D → StationView D
  after_failed v worker disk = record {
    reel = after_fault v.reel disk;
    log = with_step v.log (Stop worker Disk);
    totals = counted_by Disk v.totals;
  }

  -- the worker has stopped
  abbrev pub after_stopped : StationView D → (worker : ℕ) → Why → StationView D
  after_stopped v worker why = record { reel = v.reel; log = with_step v.log (Stop worker why); totals = counted_by why v.totals }
