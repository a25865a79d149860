-- Shares of the total of misses: words of private clauses.
use Rattle.std.specs.Prelude.{ℕ, ◌<◌, ◌≤◌, ◌^◌}
use Rattle.frame_share.specs.Units.{Tally}

-- There is a part. The misses without a put are no more than the parts, of which there are not too many in all.
pub record HasPart (all : ℕ) (units : Tally) : Type 0 where
  pub some : 1 ≤ units.parts
  pub most : units.pending ≤ units.parts
  pub within : units.parts ≤ all
  pub few : all < 2 ^ 64
