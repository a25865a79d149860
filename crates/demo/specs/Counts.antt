-- How many frames the demonstration job has. Its events have six frames each, and between each four of them stand two of
-- black.
--     source_count events      those of each source reel
--     record_count events      those of the record reel
use Rattle.std.specs.Prelude.{ℕ, ◌+◌, ◌-◌, ◌*◌, ◌/◌, ◌%◌}

abbrev pub source_count : ℕ → ℕ
source_count events = 6 * ((events - 1) / 4) + 12

abbrev pub record_count : ℕ → ℕ
record_count events = 26 * ((events - 1) / 4) + 6 * ((events - 1) % 4) + 6
