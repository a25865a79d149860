-- The pull list of a job: the source frames that a room needs from the vault, with a margin on both sides, in ranges. All of it
-- is this project's own rule.
-- * wanted frame: one of the reel's, at most the margin away from a frame of that reel that a record frame needs
-- * pull list [Laws]: ranges that each hold a frame, by reel and start, where each starts above the end of the one before it in
--   its reel, and which hold just the wanted frames. Laws: a job has one for a margin, and no list of ranges with the same
--   frames is shorter
--     IsWanted p margin reel x      frame x of the reel at a place of the table is one of the reel's, and near a needed one
--     IsPullList p margin ranges      the ranges of just these frames
use Rattle.std.specs.Prelude.{◌≡◌, ◌⊎◌, ◌↔◌, ℕ, ◌+◌, ◌<◌, ◌≤◌, List, [], ◌∷◌, Some, slice_get}
use Rattle.std.specs.List.{All, AllPairs}
use Rattle.cf_base.specs.declared.reel.ReelEntry.{ReelEntry}
use Rattle.conform_job.specs.Job.{IsNeeded}
use Rattle.conform_job.specs.declared.parts.JobParts.{JobParts}
use Rattle.pull_list.specs.declared.range.PullRange.{PullRange}

-- ---- what is wanted

-- the reel at a place of the table has frame x
abbrev pub HasFrame : List ReelEntry → ℕ → ℕ → Type 0
HasFrame entries reel x = (e : ReelEntry) × (slice_get entries reel ≡ Some e) × (e.start ≤ x) × (x < e.start + e.frames)

-- and it is at most the margin away from a frame of that reel that a record frame needs
pub record IsWanted (p : JobParts) (margin reel x : ℕ) : Type 0 where
  pub in_reel : HasFrame p.reels reel x
  pub needed : ℕ
  pub need : IsNeeded p (record { reel = reel; source = needed })
  pub not_before : needed ≤ x + margin
  pub not_after : x ≤ needed + margin

-- ---- ranges of frames

-- the range holds frame x of the reel
abbrev pub Holds : PullRange → ℕ → ℕ → Type 0
Holds range reel x = (range.reel ≡ reel) × (range.start ≤ x) × (x < range.end)

-- one of the ranges does
abbrev pub HoldsIn : List PullRange → ℕ → ℕ → Type 0
HoldsIn [] reel x = ⊥
HoldsIn (range ∷ ranges) reel x = Holds range reel x ⊎ HoldsIn ranges reel x

-- the later range is of a later reel, or its start is above the end of the earlier one
abbrev pub IsBefore : PullRange → PullRange → Type 0
IsBefore earlier later = (earlier.reel < later.reel) ⊎ ((earlier.reel ≡ later.reel) × (earlier.end < later.start))

-- The ranges of these frames: each holds a frame, they stand in the order of the reels and then of their starts, none touches
-- another, and a frame is in a range exactly where it is one of these.
pub record AreRangesOf (Wanted : ℕ → ℕ → Type 0) (ranges : List PullRange) : Type 0 where
  pub some : All (λ (range : PullRange). range.start < range.end) ranges
  pub order : AllPairs IsBefore ranges
  pub exact : (reel x : ℕ) → HoldsIn ranges reel x ↔ Wanted reel x

abbrev pub IsPullList : JobParts → ℕ → List PullRange → Type 0
IsPullList p margin ranges = AreRangesOf (IsWanted p margin) ranges

-- its reel is in the table, and it ends in that reel's day
abbrev pub IsInDay : List ReelEntry → PullRange → Type 0
IsInDay entries range = (e : ReelEntry) × (slice_get entries range.reel ≡ Some e) × (range.end ≤ e.day)
