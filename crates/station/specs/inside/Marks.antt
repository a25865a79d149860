-- Shares of the totals of stops, one for each why: words of private clauses.
use Rattle.std.specs.Prelude.{◌≤◌}
use Rattle.station.specs.Marks.{Tallies}

-- each has a part
pub record HasParts (marks : Tallies) : Type 0 where
  pub source : 1 ≤ marks.source.parts
  pub disk : 1 ≤ marks.disk.parts
  pub memory : 1 ≤ marks.memory.parts
  pub changed : 1 ≤ marks.changed.parts
  pub claims : 1 ≤ marks.claims.parts
