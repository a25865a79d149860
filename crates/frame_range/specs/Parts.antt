-- Which frames of a job a run is to render: this project's own rule.
-- * part [Laws]: frames `(k - 1) * n / N` up to `k * n / N` of a job of `n` frames, rounded down, the end left out; the extent
--   of all frames is the range from 0 to `n`. Laws: the parts of a job share no frame and together have all; part 1 of 1 is the
--   whole job
--     part_edge edge parts count      the frame before which so many of the parts end
--     part_range part parts count      the range of a part
--     range_of extent count      the range of all frames, or of a part
--     IsIn range i      frame i is one of the range's
use Rattle.std.specs.Prelude.{ℕ, ◌-◌, ◌*◌, ◌/◌, ◌<◌, ◌≤◌}
use Rattle.frame_range.specs.declared.range.Extent.{Extent}
use Rattle.frame_range.specs.declared.range.Extent.TheVariants.{Whole, Part}
use Rattle.frame_range.specs.declared.range.FrameRange.{FrameRange}

-- so many parts' share of the frames, rounded down
abbrev pub part_edge : (edge parts count : ℕ) → ℕ
part_edge edge parts count = edge * count / parts

-- The frames of part k of n of a job of so many frames: from (k - 1) * count / n up to k * count / n, both rounded down, the
-- end left out. The parts go from 1.
abbrev pub part_range : (part parts count : ℕ) → FrameRange
part_range part parts count = record { low = part_edge (part - 1) parts count; high = part_edge part parts count }

abbrev pub range_of : Extent → (count : ℕ) → FrameRange
range_of Whole count = record { low = 0; high = count }
range_of (Part part parts) count = part_range part parts count

abbrev pub IsIn : FrameRange → ℕ → Type 0
IsIn range i = (range.low ≤ i) × (i < range.high)

-- a part is one of 1 to 999
abbrev pub IsExtent : Extent → Type 0
IsExtent Whole = Unit {0}
IsExtent (Part part parts) = (1 ≤ part) × (part ≤ parts) × (parts ≤ 999)
