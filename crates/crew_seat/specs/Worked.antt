-- What a worker does to its marks and its scan. All of it is this project's own rule.
-- * worker [Stepped]: what it does to its seat: how many loads it made, each a miss of its units; whether one of them failed, which
--   ends them; a stop for a source file has its cause in its own loads; what a seat has before, and what it hands in
use Rattle.std.specs.Prelude.{◌≡◌, ℕ, ◌+◌, ◌*◌, ◌<◌, ◌≤◌, Bool, true, Option, None}
use Rattle.cf_base.specs.declared.limits.TheConstants.{FRAMES}
use Rattle.scan_source.specs.World.{World}
use Rattle.frame_share.specs.Units.{Tally}
use Rattle.station.specs.Marks.{Tallies}

-- the parts stay
pub record KeepsParts (before now : Tallies) : Type 0 where
  pub source : now.source.parts ≡ before.source.parts
  pub disk : now.disk.parts ≡ before.disk.parts
  pub memory : now.memory.parts ≡ before.memory.parts
  pub changed : now.changed.parts ≡ before.changed.parts
  pub claims : now.claims.parts ≡ before.claims.parts

-- A stop for a source file has its cause: a load failed, or a file was loaded that has changed, where no files are told.
pub record HasCauses (told : Option World) (loads : ℕ) (failed : Bool) (before now : Tallies) : Type 0 where
  pub parts : KeepsParts before now
  pub source : before.source.amount < now.source.amount → failed ≡ true
  pub changed : before.changed.amount < now.changed.amount → (1 ≤ loads) × (told ≡ None)

-- so many more misses were counted
pub record HasCounted (before : Tally) (more : ℕ) (now : Tally) : Type 0 where
  pub parts : now.parts ≡ before.parts
  pub amount : now.amount ≡ before.amount + more

-- How many loads are made at most: two for each frame that a job has at most, by a worker; then two for each free frame, and for
-- one claim more; and all of these from one seat.
abbrev pub worker_loads : ℕ
worker_loads = 2 * FRAMES

abbrev pub rest_loads : ℕ
rest_loads = 2 * FRAMES + 2

abbrev pub seat_loads : ℕ
seat_loads = worker_loads + rest_loads
