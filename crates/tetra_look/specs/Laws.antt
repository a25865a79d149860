-- What the definitions come to, in words of a table's entries.
-- * laws of a look: where a code lies is its way along the channel in 65536ths of a step, rounded down, and outside of the
--   bounds an end; a code is that of the mean, over all thresholds, of the entry a step further along each channel whose part is
--   over the threshold; it lies between the least and the greatest code of these entries, and none is past 1023; a table of any
--   size whose values are their places, to within 0.00045, gives each colour back
--     FindsPlace      where a code lies on a channel
--     StaysOnChannel      a code outside of the bounds of a channel lies at its end
--     IsMeanOfCorners      a code is that of the mean of the entries that weigh in, one for each threshold
--     StaysBetweenCorners      a code lies between the least and the greatest code of the entries that weigh in
--     StaysCode      a table that is read makes codes from 0 to 1023
--     RoundsNear      the value of a place, rounded to 10^-9, is near the place
--     KeepsColours      a table whose values are near their places, each on its channel, gives each colour back
use Rattle.std.specs.Prelude.{◌≡◌, ℕ, zero, suc, ◌≤◌, ◌<◌, ◌+◌, ◌-◌, ◌*◌, ◌/◌, true, false, if◌then◌else◌, nat_lt, List, [], ◌∷◌, ℤ, pos, ◌*ℤ◌, ◌<ℤ◌, ◌≤ℤ◌, slice_index, slice_index_or, Some}
use Rattle.cf_base.specs.Fixed.{nearest}
use Rattle.cube_reader.specs.Table.{Table, IsTable, units}
use Rattle.tetra_look.specs.Look.{Lattice, from_zero, code_of_sum, reach, way, cell, part, cell_at, part_at, value_at, lattice_of, look_code, look_of}

-- The place before a code, with its part, is its way in 65536ths of a step, rounded down. It is never the last place.
abbrev pub FindsPlace : Type 0
FindsPlace = (low high : ℤ) (n code : ℕ) → 2 ≤ n
    → (65536 * cell low high n code + part low high n code ≡ 65536 * way low high n code / reach low high)
    × (cell low high n code + 2 ≤ n) × (part low high n code ≤ 65536)

-- A code at the lower bound or under it is at the first place, and one at the upper bound or over it is at the last.
abbrev pub StaysOnChannel : Type 0
StaysOnChannel = (low high : ℤ) (n code : ℕ) → 2 ≤ n → low <ℤ high
    → (pos (code * 1000000000) ≤ℤ (pos 1023 *ℤ low) → (cell low high n code ≡ 0) × (part low high n code ≡ 0))
    × ((pos 1023 *ℤ high) ≤ℤ pos (code * 1000000000) → (cell low high n code + 2 ≡ n) × (part low high n code ≡ 65536))

-- 1 if the part is over the threshold
abbrev pub step_over : (threshold part : ℕ) → ℕ
step_over threshold part = if nat_lt threshold part then 1 else 0

-- The entry at the place of the cells, a step further along each channel whose part is over a threshold. Thresholds from 0 to
-- 65535 give just the entries that weigh in: two at most in one dimension, and four at most, a tetrahedron's, in three.
abbrev pub corner : Lattice → (colour : List ℕ) (channel threshold : ℕ) → ℕ
corner l colour c threshold =
    let at : ℕ → ℕ = λ a. cell_at l colour a + step_over threshold (part_at l colour a) in
    if l.is_3d then at 0 + l.size * (at 1 + l.size * at 2) else at c

-- the sum of f over the first n numbers
unfoldable pub sum_below : (n : ℕ) (f : ℕ → ℕ) → ℕ
sum_below zero f = 0
sum_below (suc n) f = sum_below n f + f n

-- whatever the bounds of the channels, the values and the colour
abbrev pub IsMeanOfCorners : Type 0
IsMeanOfCorners = (l : Lattice) (colour : List ℕ) (channel : ℕ) → look_code l colour channel
    ≡ code_of_sum (sum_below 65536 (λ threshold. value_at l (corner l colour channel threshold) channel))

-- the code of an entry by itself
abbrev pub entry_code : Lattice → (n channel : ℕ) → ℕ
entry_code l n c = code_of_sum (65536 * value_at l n c)

abbrev pub IsBetween : (least most : ℕ) → ℕ → Type 0
IsBetween least most code = (least ≤ code) × (code ≤ most)

-- the same
abbrev pub StaysBetweenCorners : Type 0
StaysBetweenCorners = (l : Lattice) (colour : List ℕ) (channel least most : ℕ)
    → ((threshold : ℕ) → threshold < 65536 → IsBetween least most (entry_code l (corner l colour channel threshold) channel))
    → IsBetween least most (look_code l colour channel)

-- each code of a colour, as a table that is read shows it
abbrev pub StaysCode : Type 0
StaysCode = (t : Table) → IsTable t → (colour : List ℕ) (channel : ℕ) → slice_index (look_of (Some (lattice_of t)) colour) channel ≤ 1023

-- Of n places from 0 to 1, a value is that of a place to within 0.00045: 450,000 units of 10^-9.
abbrev pub IsNear : (n place : ℕ) → ℤ → Type 0
IsNear n place v =
    (place * 1000000000 ≤ (from_zero v + 450000) * (n - 1)) × (from_zero v * (n - 1) ≤ place * 1000000000 + 450000 * (n - 1))

-- as a place's own value is, rounded as a number of a cube is
abbrev pub RoundsNear : Type 0
RoundsNear = (n place : ℕ) → 2 ≤ n → IsNear n place (pos (nearest (place * 1000000000) (n - 1)))

-- from 0 to 1 on each channel, and each value is near its place on its channel
pub record IsIdentity (t : Table) : Type 0 where
  pub least : 2 ≤ t.size
  pub low : (channel : ℕ) → channel < 3 → units t.low channel ≡ pos 0
  pub high : (channel : ℕ) → channel < 3 → units t.high channel ≡ pos 1000000000
  pub on_line : t.is_3d ≡ false → (place channel : ℕ) → place < t.size → channel < 3
      → IsNear t.size place (units (slice_index_or t.entries place []) channel)
  pub in_cube : t.is_3d ≡ true → (r g b channel : ℕ) → r < t.size → g < t.size → b < t.size → channel < 3
      → IsNear t.size (slice_index (r ∷ g ∷ b ∷ []) channel)
      (units (slice_index_or t.entries (r + t.size * (g + t.size * b)) []) channel)

abbrev pub KeepsColours : Type 0
KeepsColours = (t : Table) → IsIdentity t → (r g b : ℕ) → r ≤ 1023 → g ≤ 1023 → b ≤ 1023
    → look_of (Some (lattice_of t)) (r ∷ g ∷ b ∷ []) ≡ r ∷ g ∷ b ∷ []
