-- Marks that are handed out and taken in, a part for each seat. This is this project's own rule.
use Rattle.std.specs.Prelude.{◌≡◌, ℕ, ◌+◌}
use Rattle.station.specs.Marks.{Tallies}

-- n parts of each were handed out, and no amount
pub record HasGiven (before : Tallies) (n : ℕ) (now : Tallies) : Type 0 where
  pub source : (now.source.parts + n ≡ before.source.parts) × (now.source.amount ≡ before.source.amount)
  pub disk : (now.disk.parts + n ≡ before.disk.parts) × (now.disk.amount ≡ before.disk.amount)
  pub memory : (now.memory.parts + n ≡ before.memory.parts) × (now.memory.amount ≡ before.memory.amount)
  pub changed : (now.changed.parts + n ≡ before.changed.parts) × (now.changed.amount ≡ before.changed.amount)
  pub claims : (now.claims.parts + n ≡ before.claims.parts) × (now.claims.amount ≡ before.claims.amount)

-- one part of each
pub record IsOnePart (marks : Tallies) : Type 0 where
  pub source : marks.source.parts ≡ 1
  pub disk : marks.disk.parts ≡ 1
  pub memory : marks.memory.parts ≡ 1
  pub changed : marks.changed.parts ≡ 1
  pub claims : marks.claims.parts ≡ 1

-- n parts of each were taken in
pub record HasTaken (before : Tallies) (n : ℕ) (now : Tallies) : Type 0 where
  pub source : now.source.parts ≡ before.source.parts + n
  pub disk : now.disk.parts ≡ before.disk.parts + n
  pub memory : now.memory.parts ≡ before.memory.parts + n
  pub changed : now.changed.parts ≡ before.changed.parts + n
  pub claims : now.claims.parts ≡ before.claims.parts + n
