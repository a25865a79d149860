-- The look of a pixel: the colour that a table of colours has for it, by linear interpolation in a table: words of private clauses.
use Rattle.std.specs.Prelude.{◌≡◌, ℕ, ◌≤◌, ◌<◌, ◌<ℤ◌, length, ℤ}
use Rattle.cube_reader.specs.Table.{units, IsBound, greatest_size, entry_count}
use Rattle.tetra_look.specs.Look.{Lattice, value_at}

-- what holds of each lattice that is kept
pub record IsLattice (l : Lattice) : Type 0 where
  pub least : 2 ≤ l.size
  pub greatest : l.size ≤ greatest_size l.is_3d
  pub count : length l.entries ≡ entry_count l.is_3d l.size
  pub low : (channel : ℕ) → channel < 3 → IsBound (units l.low channel)
  pub high : (channel : ℕ) → channel < 3 → IsBound (units l.high channel)
  pub order : (channel : ℕ) → channel < 3 → units l.low channel <ℤ units l.high channel
  pub values : (n channel : ℕ) → n < length l.entries → channel < 3 → value_at l n channel ≤ 65472
