-- The pull list of a job, as it is printed: which ranges of source frames a room fetches. The text is this project's own rule.
-- * text of a pull list: the line of each range, with its labels in the mode of its reel, and both totals
--     IsLabelled rate entries range      the range holds frames, and their labels can be counted
--     pull_of rate entries ranges      one line for each range, and the line of both numbers
use Rattle.std.specs.Prelude.{◌≡◌, ℕ, ◌-◌, ◌<◌, ◌≤◌, ◌==◌, if◌then◌else◌, List, [], ◌∷◌, ◌++◌, length, codes, decimal, slice_get, Some}
use Rattle.std.specs.List.{flat_map, sum_by}
use Rattle.std.specs.Option.{option_map_or}
use Rattle.cf_base.specs.Timing.{CanCount, frames_in_day}
use Rattle.cf_base.specs.declared.reel.ReelEntry.{ReelEntry}
use Rattle.cf_base.specs.declared.timing.Mode.{Mode}
use Rattle.cf_base.specs.declared.timing.Mode.TheVariants.{NonDrop, Drop}
use Rattle.cf_base.specs.declared.timing.Rate.{Rate}
use Rattle.printed_text.specs.Text.{spaced_line}
use Rattle.pull_list.specs.declared.range.PullRange.{PullRange}
use Rattle.printed_tables.specs.Table.{label_word}

-- a day in drop-frame mode has 2,589,408 frames (SMPTE ST 12-1), and no other has
abbrev pub mode_of : ReelEntry → Mode
mode_of e = if e.day == 2589408 then Drop else NonDrop

pub record IsLabelled (rate : Rate) (entries : List ReelEntry) (range : PullRange) : Type 0 where
  pub some : range.start < range.end
  pub reel : ReelEntry
  pub there : slice_get entries range.reel ≡ Some reel
  pub counts : CanCount rate (mode_of reel)
  pub day : range.end ≤ frames_in_day rate (mode_of reel)

abbrev pub size_of : PullRange → ℕ
size_of range = range.end - range.start

-- the reel's name, the labels of the first and of the last frame (SMPTE ST 12-1), and how many frames there are
unfoldable pub range_line : Rate → PullRange → ReelEntry → List ℕ
range_line rate range e = spaced_line (e.name ∷ label_word rate (mode_of e) range.start
    ∷ label_word rate (mode_of e) (range.end - 1) ∷ decimal (size_of range) ∷ [])

-- no line where the table has no such reel
abbrev pub line_at : Rate → List ReelEntry → PullRange → List ℕ
line_at rate entries range = option_map_or (range_line rate range) (slice_get entries range.reel) []

unfoldable pub pull_of : Rate → List ReelEntry → List PullRange → List ℕ
pull_of rate entries ranges = flat_map (line_at rate entries) ranges
    ++ spaced_line (codes "ranges" ∷ decimal (length ranges) ∷ codes "frames" ∷ decimal (sum_by size_of ranges) ∷ [])
