-- What a run does to the seats of its workers. All of it is this project's own rule.
--     HasStepped     steps that were made from a seat
--     IsFresh        a seat that was just made
--     HasWorked      a worker's whole part of a run
--     WasCounted     what a seat has then to hand in
use Rattle.std.specs.Prelude.{◌≡◌, ℕ, ◌+◌, ◌≤◌, Bool, true, false, ◌||◌, Option}
use Rattle.scan_source.specs.State.{ScanState}
use Rattle.scan_source.specs.World.{World}
use Rattle.frame_share.specs.Units.{fresh as unasked}
use Rattle.station.specs.Marks.{fresh}
use Rattle.frame_fetch.specs.Scanned.{IsScannedAlone}
use Rattle.crew_seat.specs.Seats.{IsOnePart}
use Rattle.crew_seat.specs.Worked.{HasCauses, HasCounted, seat_loads}
use Rattle.crew_seat.specs.declared.seat.Seat.{Seat}

module _ {S N C A B D E F G : Type 0} where
  -- So many loads at most were made, each counted at the seat and as a miss of its units. One of them may have failed, which is the
  -- last then, and behind a failed one none is made. Each stop for a source file has its cause in them. They are no more than the
  -- frames need that were claimed meanwhile, and `owed` more, which a frame needs that was claimed before.
  pub record HasStepped (told : Option World) (state : S → ScanState) (most owed : ℕ) (old new : Seat S N C A B D E F G) : Type 0 where
    pub more : ℕ
    pub failed : Bool
    pub few : more ≤ most
    pub counts : new.loader.loads ≡ old.loader.loads + more
    pub fails : new.has_failed ≡ (old.has_failed || failed)
    pub units : HasCounted old.loader.units more new.loader.units
    pub scanned : IsScannedAlone more (failed ≡ true) (state old.loader.scan) (state new.loader.scan)
    pub still : old.has_failed ≡ true → new.loader.scan ≡ old.loader.scan
    pub causes : HasCauses told more failed old.marks new.marks
    pub needed : more + old.marks.claims.amount ≤ new.marks.claims.amount + owed

  -- it has one part of each total, and nothing was counted
  pub record IsFresh (seat : Seat S N C A B D E F G) : Type 0 where
    pub marks : seat.marks ≡ fresh
    pub units : seat.loader.units ≡ unasked
    pub none : seat.loader.loads ≡ 0
    pub unfailed : seat.has_failed ≡ false

  -- What a worker did from its start on: so many loads at most, each counted as a miss, none behind one that failed, and the cause
  -- of each stop for a source file among them; and no more of them than the frames need that it claimed.
  pub record HasWorked (told : Option World) (state : S → ScanState) (most : ℕ) (old new : Seat S N C A B D E F G) : Type 0 where
    pub few : new.loader.loads ≤ most
    pub units : HasCounted old.loader.units new.loader.loads new.loader.units
    pub scanned : IsScannedAlone new.loader.loads (new.has_failed ≡ true) (state old.loader.scan) (state new.loader.scan)
    pub causes : HasCauses told new.loader.loads new.has_failed old.marks new.marks
    pub needed : new.loader.loads + old.marks.claims.amount ≤ new.marks.claims.amount

  -- A seat to hand in: one part of each total and one of the misses, which are as many as its loads. These are no more than the
  -- frames need that it claimed.
  pub record WasCounted (seat : Seat S N C A B D E F G) : Type 0 where
    pub few : seat.loader.loads ≤ seat_loads
    pub marks : IsOnePart seat.marks
    pub parts : seat.loader.units.parts ≡ 1
    pub amount : seat.loader.units.amount ≡ seat.loader.loads
    pub needed : seat.loader.loads ≤ seat.marks.claims.amount
