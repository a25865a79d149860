-- What a project file says. All rules here are this project's own; TOML is as the crate `toml` states it.
-- * project of a text [Keys]: the keys in their order with their faults, over what `toml` states of the text
--     title_in .. cube_in      the keys at the top, 1 to 8, in the order in which they are checked
--     reels_in, reel_of      key 9, and a reel's keys: 10, 11, 13, 12, 14, 15
--     cuts_in      key 16, the cuts of the record, which is checked after key 9
--     knows_top, knows_reels      that no key is unknown
--     project_of table      the project of a table, or its first fault
--     Means text answer      what a text comes to
--     IsInRange project      what every project keeps
use Rattle.std.specs.Prelude.{◌≡◌, ◌⊎◌, ◌<◌, ◌≤◌, ◌+◌, ◌&&◌, ◌==◌, if◌then◌else◌, not, ℕ, ℤ, pos, negsuc}
use Rattle.std.specs.Prelude.{Bool, true, false, List, [], ◌∷◌, length, Option, Some, None}
use Rattle.std.specs.Prelude.{Result, Ok, Err, codes, refl, nat_le, option_map, option_and_then}
use Rattle.std.proofs.Common.{lit≤}
use Rattle.std.proofs.lemmas.Bool.{leb-true}
use Rattle.std.specs.List.{list_any, All}
use Rattle.std.specs.Str.{bytes_eq, IsUtf8}
use Rattle.cf_base.specs.declared.limits.TheConstants.{LARGEST, LONGEST, PROJECT_BYTES}
use Rattle.cf_base.specs.Text.{kept_if, is_name, is_path_text, path_text_of, title_text_of}
use Rattle.cf_base.specs.Timing.{can_count, frames_in_day}
use Rattle.cf_base.specs.declared.fail.Fail.{Fail}
use Rattle.cf_base.specs.declared.fail.Fail.TheVariants.{Fault, NoMemory}
use Rattle.cf_base.specs.declared.pixel.Rgb.{Rgb}
use Rattle.cf_base.specs.declared.reel.ReelEntry.{ReelEntry}
use Rattle.cf_base.specs.declared.timing.Rate.{Rate}
use Rattle.cf_base.specs.declared.timing.Rate.TheVariants.{R24, R25, R30}
use Rattle.cf_base.specs.declared.timing.Mode.{Mode}
use Rattle.cf_base.specs.declared.timing.Mode.TheVariants.{NonDrop, Drop}
use Rattle.cf_base.specs.Steps.{◌>>=◌, required}
use Rattle.cf_timecode.specs.declared.Label.{Label}
use Rattle.cf_timecode.specs.declared.TcFault.{TcFault}
use Rattle.cf_timecode.specs.Counting.{number_of}
use Rattle.cf_timecode.specs.Spelling.{parsed}
use Rattle.toml.specs.Data.{Data, Items, Members, as_integer, get_member, item, no_items, table}
use Rattle.toml.specs.Parse.{parse_document}
use Rattle.project_file.specs.Keys.{all_keys, count_items, fault, flag_at}
use Rattle.project_file.specs.Keys.{is_table, is_text, is_whole, list_at, needed, optional}
use Rattle.project_file.specs.Keys.{text_at, whole_at}
use Rattle.project_file.specs.declared.fault.Place.{Place}
use Rattle.project_file.specs.declared.fault.ProjectFault.{ProjectFault}
use Rattle.project_file.specs.declared.fault.ProjectKind.TheVariants.{Text, WrongType, OutOfRange, UnknownKey}
use Rattle.project_file.specs.declared.Project.{Project}

abbrev pub place : ℕ → ℕ → Place
place reel key = record { key = key; reel = reel }

-- in faults reels count from 1, and reel 0 is the top
abbrev pub top : ℕ → Place
top = place 0

-- ---- the keys at the top

abbrev pub title_in : Members → Result (List ℕ) ProjectFault
title_in ms = optional [] (text_at (top 1) title_text_of) (get_member (codes "title") ms)

abbrev pub rate_of : ℤ → Option Rate
rate_of (pos n) = if n == 24 then Some R24 else if n == 25 then Some R25 else if n == 30 then Some R30 else None
rate_of (negsuc n) = None

abbrev pub rate_at : Data → Result Rate ProjectFault
rate_at d = do
  z ← required (fault WrongType (top 2)) (as_integer d)
  required (fault OutOfRange (top 2)) (rate_of z)

abbrev pub rate_in : Members → Result Rate ProjectFault
rate_in ms = needed (top 2) rate_at (get_member (codes "rate") ms)

abbrev pub width_in : Members → Result ℕ ProjectFault
width_in ms = needed (top 3) (whole_at (top 3) 1 LARGEST) (get_member (codes "width") ms)

abbrev pub height_in : Members → Result ℕ ProjectFault
height_in ms = needed (top 4) (whole_at (top 4) 1 LARGEST) (get_member (codes "height") ms)

-- a code, 0 to 1023
abbrev pub Code : Type 0
Code = (n : ℕ) × (n ≤ 1023)

abbrev pub code_if : (n : ℕ) (in_range : Bool) → nat_le n 1023 ≡ in_range → Option Code
code_if n true is = Some (n, leb-true n 1023 is)
code_if n false is = None

abbrev pub code_of : ℤ → Option Code
code_of (pos n) = code_if n (nat_le n 1023) refl
code_of (negsuc n) = None

abbrev pub code_at : Data → Option Code
code_at d = option_and_then code_of (as_integer d)

abbrev pub rgb_from : Option Code → Option Code → Option Code → Option Rgb
rgb_from (Some r) (Some g) (Some b) = Some (record { r = r.0; g = g.0; b = b.0; r_in_range = r.1; g_in_range = g.1; b_in_range = b.1 })
rgb_from _ _ _ = None

-- three codes
abbrev pub rgb_of : Items → Option Rgb
rgb_of (item r (item g (item b no_items))) = rgb_from (code_at r) (code_at g) (code_at b)
rgb_of _ = None

abbrev pub black_at : Data → Result Rgb ProjectFault
black_at d = do
  items ← list_at (top 5) is_whole d
  required (fault OutOfRange (top 5)) (rgb_of items)

abbrev pub usual_black : Rgb
usual_black = record { r = 95; g = 95; b = 95; r_in_range = lit≤ tt; g_in_range = lit≤ tt; b_in_range = lit≤ tt }

abbrev pub black_in : Members → Result Rgb ProjectFault
black_in ms = optional usual_black black_at (get_member (codes "black") ms)

abbrev pub bands_in : Members → Result ℕ ProjectFault
bands_in ms = optional 4 (whole_at (top 6) 1 64) (get_member (codes "bands") ms)

abbrev pub edl_in : Members → Result (List ℕ) ProjectFault
edl_in ms = needed (top 7) (text_at (top 7) path_text_of) (get_member (codes "edl") ms)

abbrev pub some_path : List ℕ → Option (Option (List ℕ))
some_path bytes = option_map (λ path. Some path) (path_text_of bytes)

abbrev pub cube_in : Members → Result (Option (List ℕ)) ProjectFault
cube_in ms = optional None (text_at (top 8) some_path) (get_member (codes "cube") ms)

-- ---- the reels

abbrev pub reels_at : Data → Result Items ProjectFault
reels_at d = do
  items ← list_at (top 9) is_table d
  if nat_le (count_items items) 1024 then Ok items else Err (fault OutOfRange (top 9))

abbrev pub reels_in : Members → Result Items ProjectFault
reels_in ms = optional no_items reels_at (get_member (codes "reel") ms)

-- ---- the cuts

abbrev pub cut_texts_at : Data → Result Items ProjectFault
cut_texts_at d = do
  items ← list_at (top 16) is_text d
  if nat_le (count_items items) 998 then Ok items else Err (fault OutOfRange (top 16))

-- the paths that the texts are
abbrev pub paths_of : Items → Result (List (List ℕ)) ProjectFault
paths_of no_items = Ok []
paths_of (item d ds) = do
  first ← text_at (top 16) path_text_of d
  others ← paths_of ds
  Ok (first ∷ others)

abbrev pub cuts_at : Data → Result (List (List ℕ)) ProjectFault
cuts_at d = do
  items ← cut_texts_at d
  paths_of items

abbrev pub cuts_in : Members → Result (List (List ℕ)) ProjectFault
cuts_in ms = optional [] cuts_at (get_member (codes "cuts") ms)

-- ---- a reel

-- a name that doesn't mean black
abbrev pub reel_name_of : List ℕ → Option (List ℕ)
reel_name_of = kept_if (λ bytes. not (bytes_eq bytes (codes "BL")) && is_name bytes)

abbrev pub prefix_of : List ℕ → Option (List ℕ)
prefix_of = kept_if (λ bytes. nat_le (length bytes) 200 && is_path_text bytes)

abbrev pub mode_of : Bool → Mode
mode_of false = NonDrop
mode_of true = Drop

abbrev pub mode_at : ℕ → Rate → Data → Result Mode ProjectFault
mode_at reel rate d = do
  drop ← flag_at (place reel 13) d
  if can_count rate (mode_of drop) then Ok (mode_of drop) else Err (fault OutOfRange (place reel 13))

abbrev pub numbered : Rate → Mode → Result Label TcFault → Option ℕ
numbered rate mode (Ok label) = Some (number_of rate mode label)
numbered rate mode (Err f) = None

-- the number of the label that the bytes spell
abbrev pub label_number : Rate → Mode → List ℕ → Option ℕ
label_number rate mode bytes = numbered rate mode (parsed rate mode bytes)

abbrev pub reel_of : Rate → ℕ → Members → Result ReelEntry ProjectFault
reel_of rate reel ms = do
  name ← needed (place reel 10) (text_at (place reel 10) reel_name_of) (get_member (codes "name") ms)
  prefix ← needed (place reel 11) (text_at (place reel 11) prefix_of) (get_member (codes "prefix") ms)
  mode ← optional NonDrop (mode_at reel rate) (get_member (codes "drop") ms)
  start ← needed (place reel 12) (text_at (place reel 12) (label_number rate mode)) (get_member (codes "start") ms)
  frames ← needed (place reel 14) (whole_at (place reel 14) 1 LONGEST) (get_member (codes "frames") ms)
  file ← optional start (whole_at (place reel 15) 0 9999999) (get_member (codes "file") ms)
  Ok (record { name = name; prefix = prefix; start = start; day = frames_in_day rate mode; frames = frames; file = file })

abbrev pub reel_at : Rate → ℕ → Data → Result ReelEntry ProjectFault
reel_at rate reel (table ms) = reel_of rate reel ms
reel_at rate reel _ = Err (fault WrongType (top 9))

-- the reels, of which the first is this one
abbrev pub reels_from : Rate → ℕ → Items → Result (List ReelEntry) ProjectFault
reels_from rate reel no_items = Ok []
reels_from rate reel (item d ds) = do
  first ← reel_at rate reel d
  others ← reels_from rate (reel + 1) ds
  Ok (first ∷ others)

-- ---- unknown keys

abbrev pub is_among : List (List ℕ) → List ℕ → Bool
is_among names key = list_any (λ name. bytes_eq name key) names

abbrev pub top_keys : List (List ℕ)
top_keys = codes "title" ∷ codes "rate" ∷ codes "width" ∷ codes "height" ∷ codes "black"
    ∷ codes "bands" ∷ codes "edl" ∷ codes "cube" ∷ codes "reel" ∷ codes "cuts" ∷ []

abbrev pub reel_keys : List (List ℕ)
reel_keys = codes "name" ∷ codes "prefix" ∷ codes "start" ∷ codes "drop" ∷ codes "frames" ∷ codes "file" ∷ []

abbrev pub knows : List (List ℕ) → ℕ → Members → Result (Unit {0}) ProjectFault
knows names reel ms = if all_keys (is_among names) ms then Ok tt else Err (fault UnknownKey (place reel 0))

abbrev pub knows_top : Members → Result (Unit {0}) ProjectFault
knows_top = knows top_keys 0

abbrev pub knows_reel : ℕ → Data → Result (Unit {0}) ProjectFault
knows_reel reel (table ms) = knows reel_keys reel ms
knows_reel reel _ = Ok tt

abbrev pub knows_reels : ℕ → Items → Result (Unit {0}) ProjectFault
knows_reels reel no_items = Ok tt
knows_reels reel (item d ds) = do
  known ← knows_reel reel d
  knows_reels (reel + 1) ds

-- ---- the whole

abbrev pub project_of : Members → Result Project ProjectFault
project_of ms = do
  title ← title_in ms
  rate ← rate_in ms
  width ← width_in ms
  height ← height_in ms
  black ← black_in ms
  bands ← bands_in ms
  edl ← edl_in ms
  cube ← cube_in ms
  items ← reels_in ms
  cuts ← cuts_in ms
  reels ← reels_from rate 1 items
  top_known ← knows_top ms
  reels_known ← knows_reels 1 items
  Ok (record {
    title = title;
    rate = rate;
    width = width;
    height = height;
    black = black;
    bands = bands;
    edl = edl;
    cube = cube;
    reels = reels;
    cuts = cuts;
  })

-- the bytes are the text of this table
abbrev pub IsRead : List ℕ → Members → Type 0
IsRead text ms = (length text ≤ PROJECT_BYTES) × IsUtf8 text × (parse_document text ≡ Some ms)

-- the bytes are too many, or the text of no table
abbrev pub IsUnread : List ℕ → Type 0
IsUnread text = (PROJECT_BYTES < length text) ⊎ (IsUtf8 text → parse_document text ≡ None)

-- a text that isn't read comes to its fault, and one that is read to what its table comes to
abbrev pub Means : List ℕ → Result Project ProjectFault → Type 0
Means text answer = (IsUnread text × (answer ≡ Err (fault Text (top 0)))) ⊎ ((ms : Members) × IsRead text ms × (answer ≡ project_of ms))

-- what was given is what the text comes to, or want of memory
abbrev pub Answers : List ℕ → Result Project (Fail ProjectFault) → Type 0
Answers text (Ok project) = Means text (Ok project)
Answers text (Err (Fault e)) = Means text (Err e)
Answers text (Err NoMemory) = Unit {0}

-- a text comes to one answer
abbrev pub OneMeaning : Type 0
OneMeaning = (text : List ℕ) (a b : Result Project ProjectFault) → Means text a → Means text b → a ≡ b

-- ---- what every project keeps

pub record IsReelInRange (reel : ReelEntry) : Type 0 where
  pub prefix : length reel.prefix ≤ 200
  pub start : reel.start < reel.day
  pub some : 1 ≤ reel.frames
  pub most : reel.frames ≤ LONGEST
  pub file : reel.file ≤ 9999999

pub record IsInRange (project : Project) : Type 0 where
  pub width : (1 ≤ project.width) × (project.width ≤ LARGEST)
  pub height : (1 ≤ project.height) × (project.height ≤ LARGEST)
  pub bands : (1 ≤ project.bands) × (project.bands ≤ 64)
  pub few : length project.reels ≤ 1024
  pub cuts : length project.cuts ≤ 998
  pub reels : All IsReelInRange project.reels
