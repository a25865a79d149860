-- The places of reels by their names, as the table keeps them: a map, so that a name is found in few steps. Words of private clauses.
--     HasPlaces entries places      the map has the place of each reel, by its name
--     IsKindAfter places e kind      what is wrong with a reel behind those of the map
--     ArePlaced entries result      the map of the reels, or the first that is refused
use Rattle.std.specs.Prelude.{◌≡◌, ℕ, List, Option, None, Some, Result, Ok, Err}
use Rattle.std.specs.BTreeMap.{BTreeMap, get}
use Rattle.std.specs.declared.cmp.Ordering.{Ordering}
use Rattle.std.specs.Ordering.{nat_cmp}
use Rattle.std.specs.Cmp.Lexicographic.{slice_cmp}
use Rattle.cf_base.specs.declared.fail.Fail.{Fail}
use Rattle.cf_base.specs.declared.fail.Fail.TheVariants.{Fault, NoMemory}
use Rattle.cf_base.specs.declared.reel.ReelEntry.{ReelEntry}
use Rattle.source_reels.specs.Reels.{reel_place, reels_fault, kind_after}
use Rattle.source_reels.specs.declared.table.ReelFault.{ReelFault}
use Rattle.source_reels.specs.declared.table.ReelKind.{ReelKind}

-- names in the order of their bytes
abbrev pub name_cmp : List ℕ → List ℕ → Ordering
name_cmp = slice_cmp nat_cmp

-- the map has the place of each reel, by its name
abbrev pub HasPlaces : List ReelEntry → BTreeMap (List ℕ) ℕ → Type 0
HasPlaces entries places = (name : List ℕ) → get name_cmp places name ≡ reel_place entries name

-- what is wrong with a reel behind any whose places these are
abbrev pub IsKindAfter : BTreeMap (List ℕ) ℕ → ReelEntry → Option ReelKind → Type 0
IsKindAfter places e kind = (before : List ReelEntry) → HasPlaces before places → kind ≡ kind_after before e

-- the places of reels none of which is refused, or the first that is
abbrev pub ArePlaced : List ReelEntry → Result (BTreeMap (List ℕ) ℕ) (Fail ReelFault) → Type 0
ArePlaced entries (Ok places) = (reels_fault entries ≡ None) × HasPlaces entries places
ArePlaced entries (Err (Fault fault)) = reels_fault entries ≡ Some fault
ArePlaced entries (Err NoMemory) = Unit {0}
