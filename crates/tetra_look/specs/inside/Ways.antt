-- The way of a colour through a table of three dimensions, as it is found: where it starts, its steps and its parts. Words
-- of private clauses.
--     IsStart l colour start      where the colour's way starts, and its part on each channel
--     IsWay green blue r g b way      the way of these parts, where the entries of neighbours are so far apart
--     way_entries green blue place way      the four entries on a way from a place
--     way_colour l place way      the codes of the colour on it
use Rattle.std.specs.Prelude.{◌≡◌, ℕ, ◌+◌, ◌≤◌, List, [], ◌∷◌, map, take, slice_index}
use Rattle.tetra_look.specs.declared.spot.Spot.{Spot}
use Rattle.tetra_look.specs.declared.way.Way.{Way}
use Rattle.tetra_look.specs.declared.grid.Start.{Start}
use Rattle.tetra_look.specs.Look.{Lattice, channels, path, way_code}
use Rattle.tetra_look.specs.inside.Grid.{IsSpotOn, green_step, blue_step, steps_along}

pub record IsStart (l : Lattice) (colour : List ℕ) (start : Start) : Type 0 where
  pub red : Spot
  pub green : Spot
  pub blue : Spot
  pub on_red : IsSpotOn l 1 0 (slice_index colour 0) red
  pub on_green : IsSpotOn l (green_step l) 1 (slice_index colour 1) green
  pub on_blue : IsSpotOn l (blue_step l) 2 (slice_index colour 2) blue
  pub place : start.place ≡ red.place + green.place + blue.place
  pub r : start.r ≡ red.part
  pub g : start.g ≡ green.part
  pub b : start.b ≡ blue.part

-- the parts of a way's steps, by the weights of its entries
abbrev pub way_parts : Way → List ℕ
way_parts way = (way.at_first + way.at_second + way.at_end) ∷ (way.at_second + way.at_end) ∷ way.at_end ∷ []

pub record IsWay (green blue r g b : ℕ) (way : Way) : Type 0 where
  pub first : way.first ≡ steps_along green blue (take 1 (path (r ∷ g ∷ b ∷ [])))
  pub second : way.second ≡ steps_along green blue (take 2 (path (r ∷ g ∷ b ∷ [])))
  pub third : steps_along green blue (take 3 (path (r ∷ g ∷ b ∷ []))) ≡ 1 + green + blue
  pub parts : way_parts way ≡ map (λ a. slice_index (r ∷ g ∷ b ∷ []) a) (path (r ∷ g ∷ b ∷ []))
  pub whole : way.at_start + way.at_first + way.at_second + way.at_end ≡ 65536

abbrev pub way_entries : (green blue place : ℕ) → Way → List ℕ
way_entries green blue place way = place ∷ (place + way.first) ∷ (place + way.second) ∷ (place + (1 + green + blue)) ∷ []

-- the codes of the colour on a way from a place
abbrev pub way_colour : Lattice → (place : ℕ) → Way → List ℕ
way_colour l place way = map (way_code l (way_entries (green_step l) (blue_step l) place way) (way_parts way)) channels
