-- What a crew leaves: words of private clauses.
use Rattle.std.specs.Prelude.{◌≡◌, ℕ, ◌<◌, ◌≤◌, Bool, true, false, List, length, Option, IfSome, is_some}
use Rattle.reel_disk.specs.State.{DiskState}
use Rattle.scan_source.specs.World.{World}
use Rattle.conform_job.specs.Job.{JobData}
use Rattle.cf_base.specs.Loan.{Loan}
use Rattle.reel_disk.specs.Call.{Call, OnlyWrites}
use Rattle.reel_disk.specs.Disk.{Moment, moment_of}
use Rattle.render_board.specs.Board.{has_stop, is_done}
use Rattle.render_board.specs.History.{finished_of, first_why}
use Rattle.render_board.specs.declared.step.Step.{Step}
use Rattle.run_alone.specs.declared.report.Report.{Report}
use Rattle.frame_fetch.specs.declared.run_end.RunEnd.{RunEnd}
use Rattle.frame_fetch.specs.declared.run_end.RunEnd.TheVariants.{Done}
use Rattle.station.specs.Needed.{needed_by}
use Rattle.station.specs.Station.{StationView, IsStation}
use Rattle.run_crew.specs.declared.crew.Crew.{Crew}
use Rattle.reel_writer.specs.Reel.{IsRunFile}
use Rattle.run_alone.specs.Run.{AreAllAcked}
use Rattle.run_crew.specs.Crews.{AreShared, IsReported, end_by}

-- what the station keeps holds to the end
pub record IsClosedStation {D : Type 0} (job : JobData) (low high : ℕ) (told : Option World) (workers : ℕ)
    (start : Option Moment) (tells : Bool) (state : D → DiskState) (steps : List Step)
    (end : RunEnd) (report : Report) (disk : D) : Type 0 where
  pub station : StationView D
  pub is : IsStation job told start tells state station
  pub named : station.log.workers ≡ workers
  pub range : (station.log.low ≡ low) × (station.log.high ≡ high)
  pub disk_is : station.reel.disk ≡ disk
  pub steps_are : station.log.steps ≡ steps
  pub ends : end ≡ end_by (first_why steps)
  pub whole : has_stop steps ≡ false → (i : ℕ) → station.log.low ≤ i → i < station.log.high → is_done station.log i ≡ true
  pub kept : report.kept ≡ station.reel.kept
  pub rendered : report.rendered ≡ length (finished_of steps)
  pub few : report.loads ≤ needed_by job steps

-- the same of a crew that took steps
abbrev pub HasClosedStation : {S D : Type 0} → JobData → (low high : ℕ) → (told : Option World) → (workers : ℕ)
    → (start : Option Moment) → (tells : Bool) → (state : D → DiskState) → Crew S D → Type 0
HasClosedStation job low high told workers start tells state crew =
    IfSome crew.history (λ steps. IsClosedStation job low high told workers start tells state steps crew.end crew.report crew.disk)

-- What a crew leaves that took steps.
pub record HasRunCrew {S D : Type 0} (job : JobData) (low high : ℕ) (told : Option World) (workers share : ℕ) (start : Option Moment)
    (loans : List Loan) (calls : List Call) (tells : Bool) (state : D → DiskState) (crew : Crew S D) : Type 0 where
  pub reported : IsReported job crew.end crew.report
  pub shared : AreShared share crew.log crew.report
  pub some : is_some crew.history ≡ true
  pub made : HasClosedStation job low high told workers start tells state crew
  pub acked : crew.end ≡ Done → tells ≡ true → AreAllAcked job low high (moment_of (state crew.disk).history)
  pub lent : (state crew.disk).loans ≡ loans
  pub own : OnlyWrites (IsRunFile job low high) calls (state crew.disk).calls
