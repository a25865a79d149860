-- What the answers of a scan say of the file at the path.
-- * loaded, head: what an answer says of the file: its length and first bytes, or that there is none
use Rattle.std.specs.Prelude.{◌≡◌, ℕ, ◌-◌, min, List, [], ◌++◌, length, take, replicate, Option, None, IsSomeAnd}
use Rattle.cf_base.specs.declared.limits.TheConstants.{HEADER}
use Rattle.scan_source.specs.declared.scans.Loaded.{Loaded}
use Rattle.scan_source.specs.declared.scans.Loaded.TheVariants as loaded
use Rattle.scan_source.specs.declared.scans.Head.{Head}
use Rattle.scan_source.specs.declared.scans.Head.TheVariants as head

-- where the scan tells its files: the first `most` bytes and the length, or that there is no file
abbrev pub IsLoaded : Loaded → Option (List ℕ) → ℕ → List ℕ → Type 0
IsLoaded (loaded.Got len) file most into = IsSomeAnd file (λ bytes. (len ≡ length bytes) × (into ≡ take most bytes))
IsLoaded loaded.Absent file most into = file ≡ None
IsLoaded loaded.Failed file most into = Unit {0}
IsLoaded loaded.NoMemory file most into = Unit {0}

-- how many bytes are there after an answer, also of a scan that tells nothing
abbrev pub Fills : Loaded → ℕ → List ℕ → Type 0
Fills (loaded.Got len) most into = length into ≡ min len most
Fills loaded.Absent most into = into ≡ []
Fills loaded.Failed most into = into ≡ []
Fills loaded.NoMemory most into = into ≡ []

-- the first bytes, that many, with zeros where there are fewer
unfoldable pub first_bytes : ℕ → List ℕ → List ℕ
first_bytes count bytes = take count bytes ++ replicate (count - length bytes) 0

-- where the scan tells its files: the first 2048 bytes and the length, or that there is no file
abbrev pub IsHead : Head → Option (List ℕ) → List ℕ → Type 0
IsHead (head.Found len) file into = IsSomeAnd file (λ bytes. (len ≡ length bytes) × (into ≡ first_bytes HEADER bytes))
IsHead head.Absent file into = file ≡ None
IsHead head.Failed file into = Unit {0}
