-- Source reels, their frames and the files of these. All rules here are this project's own.
-- * reels, paths: the first reel that is refused; the path of a source frame
--     reel_place entries name      the place of the reel of that name
--     reels_fault entries      the first reel that is refused
--     table_of entries      the table of these reels, or that refusal
--     path_at entries reel source      the path of a source frame's file
--     key_in entries source reel      the key of a source frame
use Rattle.std.specs.Prelude.{ℕ, ℤ, pos, negsuc, ◌+◌, ◌-ℤ◌, ◌≤◌, Bool, nat_lt, int_le, int_lt, ◌&&◌, ◌||◌, if◌then◌else◌, List, ◌++◌, take, length, All, codes, slice_get, Option, Some, None, Result, Ok, Err, position, option_and_then}
use Rattle.std.specs.Option.{option_map}
use Rattle.std.specs.Str.{bytes_eq}
use Rattle.std.specs.List.{list_any, filter_map, enumerate_from}
use Rattle.cf_base.specs.Digits.{digits}
use Rattle.cf_base.specs.declared.reel.ReelEntry.{ReelEntry}
use Rattle.cf_base.specs.declared.key.Key.{Key}
use Rattle.source_reels.specs.declared.table.ReelFault.{ReelFault}
use Rattle.source_reels.specs.declared.table.ReelKind.{ReelKind}
use Rattle.source_reels.specs.declared.table.ReelKind.TheVariants.{TwoNames, Range}

abbrev pub has_name : List ℕ → ReelEntry → Bool
has_name name e = bytes_eq e.name name

abbrev pub reel_place : List ReelEntry → List ℕ → Option ℕ
reel_place entries name = position (has_name name) entries

-- the frames go past the end of the day, or the file numbers past seven digits
abbrev pub is_past_end : ReelEntry → Bool
is_past_end e = nat_lt e.day (e.start + e.frames) || nat_lt 10000000 (e.file + e.frames)

-- what is wrong with a reel behind others: 13.1, else 13.2
abbrev pub kind_after : List ReelEntry → ReelEntry → Option ReelKind
kind_after before e = if list_any (has_name e.name) before then Some TwoNames else if is_past_end e then Some Range else None

-- reels count from 1 in a fault
abbrev pub reel_fault_at : List ReelEntry → ℕ → ReelEntry → Option ReelFault
reel_fault_at entries i e = option_map (λ (kind : ReelKind). record { reel = i + 1; kind = kind }) (kind_after (take i entries) e)

abbrev pub reels_fault : List ReelEntry → Option ReelFault
reels_fault entries = slice_get (filter_map (λ (p : ℕ × ReelEntry). reel_fault_at entries p.0 p.1) (enumerate_from 0 entries)) 0

-- the reels, unless one is refused
abbrev pub unless_refused : {A : Type 0} → A → Option ReelFault → Result A ReelFault
unless_refused entries None = Ok entries
unless_refused entries (Some fault) = Err fault

abbrev pub table_of : List ReelEntry → Result (List ReelEntry) ReelFault
table_of entries = unless_refused entries (reels_fault entries)

-- the reel has the source frame
abbrev pub has_frame : ReelEntry → ℤ → Bool
has_frame e source = int_le (pos e.start) source && int_lt source (pos (e.start + e.frames))

-- z, or 0 where it is negative
abbrev pub from_zero : ℤ → ℕ
from_zero (pos n) = n
from_zero (negsuc n) = 0

-- the path of the reel's k-th frame: the prefix, seven digits, and `.dpx`
unfoldable pub path_text : ReelEntry → ℕ → List ℕ
path_text e k = e.prefix ++ (digits 7 (e.file + k) ++ codes ".dpx")

abbrev pub path_of : ReelEntry → ℤ → Option (List ℕ)
path_of e source = if has_frame e source then Some (path_text e (from_zero (source -ℤ pos e.start))) else None

abbrev pub path_at : List ReelEntry → ℕ → ℤ → Option (List ℕ)
path_at entries reel source = option_and_then (λ (e : ReelEntry). path_of e source) (slice_get entries reel)

-- the key of a source frame, where the reel has it
abbrev pub key_of_frame : ℕ → ℤ → ReelEntry → Option Key
key_of_frame reel source e = if has_frame e source then Some (record { reel = reel; source = from_zero source }) else None

abbrev pub key_in : List ReelEntry → ℤ → ℕ → Option Key
key_in entries source reel = option_and_then (key_of_frame reel source) (slice_get entries reel)

-- the path of a key's file
abbrev pub path_of_key : List ReelEntry → Key → Option (List ℕ)
path_of_key entries key = path_at entries key.reel (pos key.source)

-- what is asked of the reels of a table
pub record IsTabled (entries : List ReelEntry) : Type 0 where
  pub few : length entries ≤ 1024
  pub short : All (λ (e : ReelEntry). length e.prefix ≤ 200) entries
