-- Counts, which are kept in 64 bits and stay at their last value.
-- * count: a number that 64 bits hold. It has risen where it grew or stands at 2^64 - 1, and by one where it is one more at
--   most. A count of faults has risen where a call failed for one, and else stays; one call adds at most one
use Rattle.std.specs.Prelude.{◌≡◌, ℕ, ◌+◌, ◌-◌, ◌^◌, ◌≤◌, min}

-- a count as 64 bits keep it
abbrev pub kept : ℕ → ℕ
kept count = min count (2 ^ 64 - 1)

-- 64 bits hold it
abbrev pub IsKept : ℕ → Type 0
IsKept count = count ≤ 2 ^ 64 - 1

-- the count went up, or stands at its last value
abbrev pub HasRisen : ℕ → ℕ → Type 0
HasRisen before now = min (before + 1) (2 ^ 64 - 1) ≤ now

-- the count went up by one at most, and not past its last value
abbrev pub HasRisenByOne : ℕ → ℕ → Type 0
HasRisenByOne before now = now ≤ min (before + 1) (2 ^ 64 - 1)

-- the count never falls, and a failure has its cause in it
pub record HasCause (before now : ℕ) (Failed : Type 0) : Type 0 where
  pub later : before ≤ now
  pub failed : Failed → HasRisen before now

-- a failure has its cause in the count of faults, and where there is none the count stays
pub record CountsFaults (Failed : Type 0) (before now : ℕ) : Type 0 where
  pub cause : HasCause before now Failed
  pub steady : (Failed → ⊥) → now ≡ before

-- one call: the count of faults rises by one where it fails, and else stays
pub record CountsOneFault (Failed : Type 0) (before now : ℕ) : Type 0 where
  pub counts : CountsFaults Failed before now
  pub once : Failed → HasRisenByOne before now
