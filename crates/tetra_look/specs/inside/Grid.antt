-- What is known of a lattice once it is made: words of private clauses.
--     IsSpot low high n step code s      where a code lies on a channel of n places, whose entries are so far apart
--     steps_along green blue gone      how much farther an entry is that lies a step along each of these channels
--     entry_numbers l colour, falling_parts l colour      the four entries on a colour's way, and its parts in falling order
use Rattle.std.specs.Prelude.{◌≡◌, ℕ, ◌≤◌, ◌<◌, ◌+◌, ◌-◌, ◌*◌, ◌==◌, if◌then◌else◌, List, ◌∷◌, [], length, map, take, slice_index, slice_index_or, ℤ}
use Rattle.std.specs.List.{list_any}
use Rattle.tetra_look.specs.declared.spot.Spot.{Spot}
use Rattle.cube_reader.specs.Table.{units}
use Rattle.tetra_look.specs.Look.{Lattice, cell, part, cell_at, part_at, entry_after, path, channels, code_of_sum, value_at}
use Rattle.tetra_look.specs.inside.Look.{IsLattice}

pub record IsSpot (low high : ℤ) (n step code : ℕ) (s : Spot) : Type 0 where
  pub place : s.place ≡ cell low high n code * step
  pub part : s.part ≡ part low high n code
  pub most : s.part ≤ 65536
  pub before_last : cell low high n code + 2 ≤ n

-- the first so many codes
pub record AreSpots (low high : ℤ) (n step total : ℕ) (spots : List Spot) : Type 0 where
  pub count : length spots ≡ total
  pub each : (code : ℕ) (d : Spot) → code < total → IsSpot low high n step code (slice_index_or spots code d)

-- how far apart the entries of neighbours along green and along blue are; along red it is 1
abbrev pub green_step : Lattice → ℕ
green_step l = if l.is_3d then l.size else 1

abbrev pub blue_step : Lattice → ℕ
blue_step l = if l.is_3d then l.size * l.size else 1

abbrev pub has_gone : List ℕ → ℕ → ℕ
has_gone gone a = if list_any (λ b. b == a) gone then 1 else 0

abbrev pub steps_along : (green blue : ℕ) (gone : List ℕ) → ℕ
steps_along green blue gone = has_gone gone 0 + has_gone gone 1 * green + has_gone gone 2 * blue

abbrev pub entry_numbers : Lattice → (colour : List ℕ) → List ℕ
entry_numbers l colour = map (λ k. entry_after l.size (map (cell_at l colour) channels) (take k (path (map (part_at l colour) channels))))
    (0 ∷ 1 ∷ 2 ∷ 3 ∷ [])

abbrev pub falling_parts : Lattice → (colour : List ℕ) → List ℕ
falling_parts l colour = let ts = map (part_at l colour) channels in map (λ a. slice_index ts a) (path ts)

-- the code of a channel that has come so far, of 65536, from one entry to the next
abbrev pub code_behind : Lattice → (entry part channel : ℕ) → ℕ
code_behind l entry part c = code_of_sum (value_at l entry c * (65536 - part) + value_at l (entry + 1) c * part)

-- on a channel of a lattice
abbrev pub IsSpotOn : Lattice → (step channel code : ℕ) → Spot → Type 0
IsSpotOn l step c code s = IsSpot (units l.low c) (units l.high c) l.size step code s

abbrev pub AreSpotsOn : Lattice → (step channel : ℕ) → List Spot → Type 0
AreSpotsOn l step c spots = AreSpots (units l.low c) (units l.high c) l.size step 1024 spots

pub record IsGrid (l : Lattice) (green blue : ℕ) (reds greens blues : List Spot) : Type 0 where
  pub lattice : IsLattice l
  pub green_is : green ≡ green_step l
  pub blue_is : blue ≡ blue_step l
  pub on_red : AreSpotsOn l 1 0 reds
  pub on_green : AreSpotsOn l (green_step l) 1 greens
  pub on_blue : AreSpotsOn l (blue_step l) 2 blues
