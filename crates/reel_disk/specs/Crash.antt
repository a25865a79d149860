-- What a crash leaves of a disk, by the number that picks one of the images.
-- * crash: what each pick leaves of a file
use Rattle.std.specs.Prelude.{◌≡◌, ◌⊎◌, ℕ, zero, suc, ◌-◌, ◌/◌, ◌<◌, ◌≤◌, List, length, take, slice_index, Option, Some, None}
use Rattle.cf_base.specs.declared.file.FileId.{FileId}
use Rattle.reel_disk.specs.declared.disk.Place.TheVariants.{Whole}
use Rattle.reel_disk.specs.Disk.{Files, History, view_of, loose_of, IsLoose, IsLooseAt}

-- the byte of a file at this place, and 0 where it has none
abbrev pub byte_at : Option (List ℕ) → ℕ → ℕ
byte_at None k = 0
byte_at (Some bytes) k = slice_index bytes k

-- The last moment at which the byte was not loose. Nothing is loose at moment 0 of a disk.
pub record IsLastFirm (h : History) (id : FileId) (k m : ℕ) : Type 0 where
  pub past : m ≤ h.now
  pub firm : (m ≡ 0) ⊎ (IsLooseAt (h.past m).loose id k → ⊥)
  pub later : (j : ℕ) → m < j → j ≤ h.now → IsLooseAt (h.past j).loose id k

-- the byte as it was before it became loose
abbrev pub IsEarlier : History → FileId → ℕ → ℕ → Type 0
IsEarlier h id k byte = (m : ℕ) × IsLastFirm h id k m × (byte ≡ byte_at ((h.past m).view id) k)

-- the byte as it is, turned over where it is loose
abbrev pub IsTurned : History → FileId → ℕ → ℕ → Type 0
IsTurned h id k byte = (IsLooseAt (loose_of h) id k → byte ≡ 255 - byte_at (view_of h id) k)
    × ((IsLooseAt (loose_of h) id k → ⊥) → byte ≡ byte_at (view_of h id) k)

-- as many bytes, each by its own rule
abbrev pub IsEach : (ℕ → ℕ → Type 0) → List ℕ → Option (List ℕ) → Type 0
IsEach Rule bytes left = (new : List ℕ) × (left ≡ Some new) × (length new ≡ length bytes)
    × ((k : ℕ) → k < length bytes → Rule k (slice_index new k))

-- What a pick leaves of one file, from what a read answers there: 0 leaves just that; 1 goes back to before the loose
-- places were loose, and the file is absent where it is loose as a whole; any other cuts a loose whole file to half its
-- length, rounded down, and turns the loose bytes of ranges over. A file that is loose as a whole and in ranges goes by
-- the rule for the whole.
abbrev pub IsPicked : ℕ → History → FileId → Option (List ℕ) → Option (List ℕ) → Type 0
IsPicked pick h id None left = left ≡ None
IsPicked zero h id (Some bytes) left = left ≡ Some bytes
IsPicked (suc zero) h id (Some bytes) left = (IsLoose (loose_of h) (Whole id) → left ≡ None)
    × ((IsLoose (loose_of h) (Whole id) → ⊥) → IsEach (IsEarlier h id) bytes left)
IsPicked (suc (suc n)) h id (Some bytes) left = (IsLoose (loose_of h) (Whole id) → left ≡ Some (take (length bytes / 2) bytes))
    × ((IsLoose (loose_of h) (Whole id) → ⊥) → IsEach (IsTurned h id) bytes left)

-- the files that a crash leaves by this pick
abbrev pub IsCrash : ℕ → History → Files → Type 0
IsCrash pick h files = (id : FileId) → IsPicked pick h id (view_of h id) (files id)
