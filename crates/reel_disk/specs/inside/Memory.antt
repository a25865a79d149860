-- What a disk in memory holds, and held: its files now, and what it takes to go back from each step: words of private clauses.
use Rattle.std.specs.Prelude.{◌≡◌, ◌⊎◌, ℕ, ◌-◌, ◌<◌, Bool, false, ◌&&◌, nat_le, nat_lt, List, slice_get, Option, Some, None, Vec, vec_len, vec_capacity}
use Rattle.std.specs.declared.alloc.Global.{Global}
use Rattle.std.specs.BTreeMap.{is_at}
use Rattle.std.specs.Map.{lookup}
use Rattle.std.specs.List.{list_any}
use Rattle.cf_base.specs.declared.file.FileId.{FileId}
use Rattle.cf_base.specs.contracts.file.FileIdOrd.TheImpl as file_id_order
use Rattle.cf_base.specs.FileId.{same_id}
use Rattle.reel_disk.specs.declared.disk.Place.{Place}
use Rattle.reel_disk.specs.declared.disk.Place.TheVariants.{Whole, Range}
use Rattle.reel_disk.specs.declared.store.Store.{Store}
use Rattle.reel_disk.specs.Disk.{Files, file_of, view_of, with_range}
use Rattle.reel_disk.specs.Memory.{content_of, history_of, put_back}

abbrev pub file_of_place : Place → FileId
file_of_place = file_of

-- the bytes of a file among these entries
abbrev pub find_in : List (FileId × Vec ℕ Global) → Files
find_in entries id = content_of (lookup (is_at ((file_id_order.ghosts).cmp id)) entries)

-- these bytes, put back at the range that was written over, give the file as it was
abbrev pub GivesBack : Option (List ℕ) → ℕ → (bytes before : List ℕ) → Type 0
GivesBack content start bytes before = put_back (with_range content start bytes) start before ≡ content

-- the store holds the same, and has room for one more loose place and one more step
abbrev pub IsSameStore : Store → Store → Type 0
IsSameStore old new = (new.files ≡ old.files) × (new.loose.items ≡ old.loose.items) × (new.steps.items ≡ old.steps.items)

abbrev pub HasRoom : Store → Type 0
HasRoom s = (vec_len s.loose < vec_capacity s.loose) × (vec_len s.steps < vec_capacity s.steps)

-- what a read answers of a file
abbrev pub stored : Store → FileId → Option (List ℕ)
stored s id = view_of (history_of s) id

-- a file is what is left of it, and stays where nothing is left
abbrev pub IsLeft : (left old new : Option (List ℕ)) → Type 0
IsLeft left old new = (new ≡ left) ⊎ ((left ≡ None) × (new ≡ old))

-- the place is the whole of this file
abbrev pub is_whole_of : FileId → Place → Bool
is_whole_of id (Whole file) = same_id file id
is_whole_of id (Range file start len) = false

-- the place is a range with this byte of the file
abbrev pub has_byte : FileId → ℕ → Place → Bool
has_byte id k (Whole file) = false
has_byte id k (Range file start len) = same_id file id && (nat_le start k && nat_lt (k - start) len)

abbrev pub is_whole_loose : List Place → FileId → Bool
is_whole_loose loose id = list_any (is_whole_of id) loose

abbrev pub is_byte_loose : List Place → FileId → ℕ → Bool
is_byte_loose loose id k = list_any (has_byte id k) loose

-- the byte of a file at this place, where it has one
abbrev pub byte_of : Option (List ℕ) → ℕ → Option ℕ
byte_of None k = None
byte_of (Some bytes) k = slice_get bytes k
