-- What a run does to the seats of its workers: words of private clauses.
--     IsReady        a worker may begin from it
use Rattle.std.specs.Prelude.{◌≡◌, false, Option}
use Rattle.scan_source.specs.State.{ScanState}
use Rattle.scan_source.specs.World.{World}
use Rattle.conform_job.specs.Names.{Tells}
use Rattle.crew_seat.specs.declared.seat.Seat.{Seat}

module _ {S N C A B D E F G : Type 0} where
  -- a worker may begin: its scan tells the job's files, and nothing was loaded or asked for
  pub record IsReady (told : Option World) (state : S → ScanState) (seat : Seat S N C A B D E F G) : Type 0 where
    pub tells : Tells told (state seat.loader.scan).world
    pub none : seat.loader.loads ≡ 0
    pub unfailed : seat.has_failed ≡ false
    pub closed : seat.loader.units.pending ≡ 0
