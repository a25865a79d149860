-- A few texts in memory, and at every other path a file of which no more than one and the same head is known.
-- * same: a few texts in memory, and at every other path one and the same head, and no file to load
--     HasLoadedSame, HasLookedSame      what it answers
--     next_same path same      what there is after a call on that path
--     faults_in scan      how often it has failed
use Rattle.std.specs.Prelude.{◌≡◌, ℕ, List, Option, None, Some, MatchOption}
use Rattle.cf_base.specs.Count.{kept}
use Rattle.scan_source.specs.declared.same.SameScans.{SameScans}
use Rattle.scan_source.specs.declared.scans.Loaded.{Loaded}
use Rattle.scan_source.specs.declared.scans.Loaded.TheVariants.{Absent}
use Rattle.scan_source.specs.declared.scans.Head.{Head}
use Rattle.scan_source.specs.declared.scans.Head.TheVariants.{Found}
use Rattle.scan_source.specs.Memory.{Memory, memory_of, one_call, HasLoaded, HasLooked}
use Rattle.scan_source.specs.World.{file_at}

-- the scan of the texts, and the head and the length in bytes of each other file
pub record Same : Type 0 where
  pub texts : Memory
  pub head : List ℕ
  pub len : ℕ

abbrev pub same_of : SameScans → Same
same_of scan = record { texts = memory_of scan.texts; head = scan.head; len = scan.len }

-- the head and the length that all files but the texts have
pub record HasSameHead (same : Same) (answer : Head) (into : List ℕ) : Type 0 where
  pub found : answer ≡ Found same.len
  pub head : into ≡ same.head

-- the texts are loaded, and no other file is
abbrev pub HasLoadedSame : (same : Same) (path : List ℕ) (most : ℕ) (answer : Loaded) (into : List ℕ) → Type 0
HasLoadedSame same path most answer into =
    MatchOption (file_at same.texts.files path) (answer ≡ Absent) (λ text. HasLoaded same.texts path most answer into)

-- a text has its own head
abbrev pub HasLookedSame : (same : Same) (path : List ℕ) (answer : Head) (into : List ℕ) → Type 0
HasLookedSame same path answer into =
    MatchOption (file_at same.texts.files path) (HasSameHead same answer into) (λ text. HasLooked same.texts path answer into)

-- the scan of the texts counts the calls on their paths, and no others
abbrev pub counted : Option (List ℕ) → Memory → Memory
counted None texts = texts
counted (Some text) texts = one_call texts

abbrev pub next_same : List ℕ → Same → Same
next_same path same = record same { texts = counted (file_at same.texts.files path) same.texts }

-- the scan of the texts alone may fail
abbrev pub faults_in : SameScans → ℕ
faults_in scan = kept scan.texts.faults
