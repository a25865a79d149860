-- What a load of a file comes to.
-- * front of a file: its length and as many of its first bytes as are asked for, or why there are none; of the file at the path
--   where the scan tells its files, else of some file
--     ByFile told path IsRight      something is right by the file at the path
--     IsLoadOf absent most file answer      the answer is a front of the file, or says why there is none
use Rattle.std.specs.Prelude.{◌≡◌, ℕ, List, length, take, Option, None, IfSome, IsSomeAnd, Result, MatchResult}
use Rattle.scan_source.specs.World.{World, file_at}
use Rattle.project_job.specs.declared.loads.Front.{Front}
use Rattle.outcome.specs.declared.Outcome.{Outcome}
use Rattle.outcome.specs.declared.Outcome.TheVariants.{Refused as IsRefused, SourceFault, NoMemory}
use Rattle.outcome.specs.declared.Refused.TheVariants.{NoFile}
use Rattle.outcome.specs.declared.Which.{Which}

-- A file, or that there is none: the one at the path where the scan tells its files, else some one that it read.
abbrev pub ByFile : Option World → List ℕ → (Option (List ℕ) → Type 0) → Type 0
ByFile told path IsRight = (file : Option (List ℕ)) × IfSome told (λ world. file ≡ file_at world path) × IsRight file

-- it is the front of the file
abbrev pub IsFront : Option (List ℕ) → ℕ → Front → Type 0
IsFront file most front = IsSomeAnd file (λ bytes. (front.len ≡ length bytes) × (front.bytes.items ≡ take most bytes))

-- there is no file, or the scan failed, or memory ran out
abbrev pub IsMissing : Which → Option (List ℕ) → Outcome → Type 0
IsMissing absent file (IsRefused (NoFile which)) = (which ≡ absent) × (file ≡ None)
IsMissing absent file SourceFault = Unit {0}
IsMissing absent file NoMemory = Unit {0}
IsMissing absent file other = ⊥

-- the one or the other
abbrev pub IsLoadOf : Which → ℕ → Option (List ℕ) → Result Front Outcome → Type 0
IsLoadOf absent most file answer = MatchResult answer (IsFront file most) (IsMissing absent file)

-- the same where the scan tells nothing
abbrev pub IsOfLoad : Which → Outcome → Type 0
IsOfLoad absent (IsRefused (NoFile which)) = which ≡ absent
IsOfLoad absent SourceFault = Unit {0}
IsOfLoad absent NoMemory = Unit {0}
IsOfLoad absent other = ⊥
