-- The table of open lines: what it has of each reel, and what that means. Words of private clauses.
--     count_of counts reel      how many event lines, and how many motion lines, the run has of a reel
--     place_of places reel nth      the place of the run's nth line of a reel, from 0
--     HasCounts table counts, HasPlaces table places      what a table has
--     line_counts table number reel, line_places table number place reel      what it has behind one more event line
--     IsTable before number counts places      these are those of the run behind the lines before
use Rattle.std.specs.Prelude.{◌≡◌, ◌≤◌, ℕ, ◌+◌, ◌-◌, ◌^◌, ◌<◌, ◌&&◌, min, Bool, false, ◌==◌, if◌then◌else◌, List, [], ◌∷◌, length, slice_get, Option, Some, None, unwrap_or, option_and_then}
use Rattle.std.specs.Option.{option_map}
use Rattle.std.specs.List.{filter, last_or}
use Rattle.std.specs.Str.{bytes_eq}
use Rattle.std.specs.BTreeMap.{BTreeMap, get}
use Rattle.std.specs.declared.cmp.Ordering.{Ordering}
use Rattle.std.specs.Ordering.{nat_cmp, ordering_then}
use Rattle.std.specs.Cmp.Lexicographic.{slice_cmp}
use Rattle.edl_events.specs.declared.table.Count.{Count}
use Rattle.edl_events.specs.declared.table.Table.{Table}
use Rattle.edl_events.specs.Places.{Line, is_event, passes_at, places}
use Rattle.edl_events.specs.Motion.{has_reel, motions_from, number_at, run_after}

-- reels in the order of their bytes
abbrev pub reel_cmp : List ℕ → List ℕ → Ordering
reel_cmp = slice_cmp nat_cmp

abbrev pub seat_cmp : List ℕ × ℕ → List ℕ × ℕ → Ordering
seat_cmp x y = ordering_then (reel_cmp x.0 y.0) (nat_cmp x.1 y.1)

abbrev pub no_count : Count
no_count = record { lines = 0; moved = 0 }

abbrev pub count_of : BTreeMap (List ℕ) Count → List ℕ → Count
count_of counts reel = unwrap_or (get reel_cmp counts reel) no_count

abbrev pub place_of : BTreeMap (List ℕ × ℕ) ℕ → List ℕ → ℕ → Option ℕ
place_of places reel nth = get seat_cmp places (reel, nth)

-- the number of the last event line
abbrev pub run_number : List Line → Option ℕ
run_number before = option_and_then (number_at before) (last_or None (places is_event before))

abbrev pub goes_on : Option ℕ → ℕ → Bool
goes_on number m = unwrap_or (option_map (λ k. k == m) number) false

-- what an event line finds: the run of its number, or a new one
abbrev pub kept_count : Bool → (List ℕ → Count) → List ℕ → Count
kept_count goes counts reel = if goes then counts reel else no_count

abbrev pub kept_place : Bool → (List ℕ → ℕ → Option ℕ) → List ℕ → ℕ → Option ℕ
kept_place goes places reel nth = if goes then places reel nth else None

-- counts are kept in 32 bits
abbrev pub one_more : ℕ → ℕ
one_more n = min (n + 1) (2 ^ 32 - 1)

-- with one event line of a reel more
abbrev pub with_line : (List ℕ → Count) → List ℕ → List ℕ → Count
with_line counts reel q = if bytes_eq reel q then record { lines = one_more (counts reel).lines; moved = (counts reel).moved } else counts q

abbrev pub with_place : (List ℕ → Count) → (List ℕ → ℕ → Option ℕ) → ℕ → List ℕ → List ℕ → ℕ → Option ℕ
with_place counts places place reel q nth = if bytes_eq reel q && (counts reel).lines == nth then Some place else places q nth

-- a table has these counts, and these places
abbrev pub HasCounts : Table → (List ℕ → Count) → Type 0
HasCounts table counts = (q : List ℕ) → count_of table.counts q ≡ counts q

abbrev pub HasPlaces : Table → (List ℕ → ℕ → Option ℕ) → Type 0
HasPlaces table places = (q : List ℕ) (nth : ℕ) → place_of table.places q nth ≡ places q nth

-- what an event line of a number finds in a table
abbrev pub run_counts : Table → ℕ → List ℕ → Count
run_counts table number = kept_count (goes_on table.number number) (count_of table.counts)

abbrev pub run_places : Table → ℕ → List ℕ → ℕ → Option ℕ
run_places table number = kept_place (goes_on table.number number) (place_of table.places)

-- and what it leaves there, by its number, its place and its reel
abbrev pub line_counts : Table → ℕ → List ℕ → List ℕ → Count
line_counts table number reel = with_line (run_counts table number) reel

abbrev pub line_places : Table → ℕ → ℕ → List ℕ → List ℕ → ℕ → Option ℕ
line_places table number place reel = with_place (run_counts table number) (run_places table number) place reel

-- what a table has with one event line of the open run more
abbrev pub more_counts : Table → List ℕ → List ℕ → Count
more_counts table reel = with_line (count_of table.counts) reel

abbrev pub more_places : Table → ℕ → List ℕ → List ℕ → ℕ → Option ℕ
more_places table place reel = with_place (count_of table.counts) (place_of table.places) place reel

-- with one motion line of a reel more
abbrev pub with_motion : (List ℕ → Count) → List ℕ → List ℕ → Count
with_motion counts reel q = if bytes_eq reel q then record { lines = (counts reel).lines; moved = one_more (counts reel).moved }
    else counts q

-- each number is below n
abbrev pub AllBelow : ℕ → List ℕ → Type 0
AllBelow n [] = Unit {0}
AllBelow n (i ∷ is) = (i < n) × AllBelow n is

-- the run's lines of a reel
abbrev pub run_of : List Line → List ℕ → List ℕ
run_of before reel = filter (passes_at (has_reel reel) before) (run_after before)

pub record IsTable (before : List Line) (number : Option ℕ) (counts : List ℕ → Count) (seats : List ℕ → ℕ → Option ℕ) : Type 0 where
  pub numbered : number ≡ run_number before
  pub within : AllBelow (length before) (run_after before)
  pub few : length (run_after before) ≤ length before
  pub placed : (reel : List ℕ) (nth : ℕ) → seats reel nth ≡ slice_get (run_of before reel) nth
  pub counted : (reel : List ℕ) → (counts reel).lines ≡ length (run_of before reel)
  pub moved : (reel : List ℕ) (p : ℕ) → slice_get (run_after before) 0 ≡ Some p → (counts reel).moved ≡ motions_from p before reel
  pub unmoved : run_after before ≡ [] → (reel : List ℕ) → (counts reel).moved ≡ 0
  pub few_moved : (reel : List ℕ) → (counts reel).moved ≤ length before
