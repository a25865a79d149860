-- What follows from the definition of a part.
use Rattle.std.specs.Prelude.{◌≡◌, ℕ, ◌<◌, ◌≤◌}
use Rattle.frame_range.specs.declared.range.Extent.TheVariants.{Whole, Part}
use Rattle.frame_range.specs.Parts.{part_range, range_of, IsIn}

-- The parts of a job share no frame, and together have all of its frames and no other.
pub record ArePartition : Type 0 where
  pub disjoint : (parts count j k i : ℕ) → 1 ≤ parts → 1 ≤ j → 1 ≤ k → IsIn (part_range j parts count) i → IsIn (part_range k parts count) i
      → j ≡ k
  pub cover : (parts count i : ℕ) → 1 ≤ parts → i < count → (k : ℕ) × (1 ≤ k) × (k ≤ parts) × IsIn (part_range k parts count) i
  pub within : (parts count k i : ℕ) → 1 ≤ parts → k ≤ parts → IsIn (part_range k parts count) i → i < count

-- part 1 of 1 is the whole job
pub record IsOnlyPart : Type 0 where
  pub whole : (count : ℕ) → range_of (Part 1 1) count ≡ range_of Whole count
