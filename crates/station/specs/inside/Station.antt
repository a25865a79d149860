-- What the value behind the station's lock is, and what it keeps whenever the lock is free: words of private clauses.
use Rattle.std.specs.Prelude.{ℕ}
use Rattle.render_board.specs.Board.{Log}
use Rattle.reel_writer.specs.View.{ReelView}
use Rattle.station.specs.Station.{StationView}

-- a station by its reel, its board's log and what was counted of each why
abbrev pub station_of : {D : Type 0} → ReelView D → Log → (source disk memory changed : ℕ) → StationView D
station_of reel log source disk memory changed = record {
  reel = reel;
  log = log;
  totals = record { source = source; disk = disk; memory = memory; changed = changed };
}
