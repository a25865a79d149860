-- What holds of the values of a data line.
use Rattle.std.specs.Prelude.{ℕ, ◌<◌, List, pos, ◌≤ℤ◌}
use Rattle.cf_base.specs.declared.fixed.Fixed.{Fixed}
use Rattle.cube_reader.specs.Table.{units}

-- on each channel from 0 to 1
abbrev pub AreClamped : (values : List Fixed) → Type 0
AreClamped values = (channel : ℕ) → channel < 3 → (pos 0 ≤ℤ units values channel) × (units values channel ≤ℤ pos 1000000000)
