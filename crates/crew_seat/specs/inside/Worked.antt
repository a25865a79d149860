-- What a worker does to its marks and its scan: words of private clauses.
use Rattle.std.specs.Prelude.{◌≡◌, ℕ, ◌≤◌, Bool, true, Option, Result, Err, IfErr}
use Rattle.scan_source.specs.World.{World}
use Rattle.station.specs.Marks.{Tallies}
use Rattle.frame_fetch.specs.Ends.{IsChange}
use Rattle.frame_fetch.specs.declared.run_end.RunEnd.{RunEnd}
use Rattle.frame_fetch.specs.declared.run_end.RunEnd.TheVariants.{SourceFault}
use Rattle.crew_seat.specs.Worked.{HasCauses}

-- no stop for a source file is counted
pub record KeepsSources (before now : Tallies) : Type 0 where
  pub source : now.source.amount ≡ before.source.amount
  pub changed : now.changed.amount ≡ before.changed.amount

-- What a worker counts of a frame that was made or could not be: with so many loads made for it, one of which failed where it
-- ended so, and one of which found a changed file where it ended so, each stop for a source file has its cause.
abbrev pub HasMarked : {T : Type 0} → Option World → Result T RunEnd → (before now : Tallies) → Type 0
HasMarked told made before now =
    (loads : ℕ) (failed : Bool) → (made ≡ Err SourceFault → failed ≡ true) → IfErr made (λ end. IsChange end → 1 ≤ loads)
    → HasCauses told loads failed before now
