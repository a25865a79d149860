-- What a disk holds, what a crash may leave of it, and what each call does to both. All of it is this project's own rule.
-- * disk: the view, the loose places, every moment until now; the images are all files that agree with the view outside the
--   loose places; what each call does to both
use Rattle.std.specs.Prelude.{◌≡◌, ◌≢◌, ◌⊎◌, ℕ, ◌+◌, ◌-◌, ◌<◌, ◌≤◌, min, List, [], ◌∷◌, ◌++◌, length, take, drop, slice_index, Option, Some, None}
use Rattle.std.proofs.Common.{inl, inr}
use Rattle.cf_base.specs.declared.file.FileId.{FileId}
use Rattle.cf_base.specs.FileId.{decide_id}
use Rattle.reel_disk.specs.declared.disk.Place.{Place}
use Rattle.reel_disk.specs.declared.disk.Place.TheVariants.{Whole, Range}
use Rattle.reel_disk.specs.declared.disk.Length as l
use Rattle.reel_disk.specs.declared.disk.Got as g
use Rattle.reel_disk.specs.declared.disk.Did as d

-- the files of a folder: the bytes at each name, or no file there
abbrev pub Files : Type 0
Files = FileId → Option (List ℕ)

-- the file that a place is a part of
abbrev pub file_of : Place → FileId
file_of (Whole id) = id
file_of (Range id start len) = id

-- the place is among these
abbrev pub IsLoose : List Place → Place → Type 0
IsLoose [] place = ⊥
IsLoose (p ∷ ps) place = (place ≡ p) ⊎ IsLoose ps place

-- one of the loose ranges of the file has this byte
abbrev pub IsLooseAt : List Place → FileId → ℕ → Type 0
IsLooseAt loose id k = (start : ℕ) × (len : ℕ) × IsLoose loose (Range id start len) × (start ≤ k) × (k < start + len)

-- no place of the file is loose
abbrev pub IsFirm : List Place → FileId → Type 0
IsFirm loose id = (p : Place) → IsLoose loose p → file_of p ≢ id

-- What a disk holds at one moment: what a read answers, and the loose places, the newest first.
pub record Moment : Type 0 where
  pub view : Files
  pub loose : List Place

-- the same length, and the same bytes but at the loose ones
abbrev pub AgreesOutside : List Place → FileId → Option (List ℕ) → Option (List ℕ) → Type 0
AgreesOutside loose id None other = other ≡ None
AgreesOutside loose id (Some bytes) other = (left : List ℕ) × (other ≡ Some left) × (length left ≡ length bytes)
    × ((k : ℕ) → k < length bytes → (IsLooseAt loose id k → ⊥) → slice_index left k ≡ slice_index bytes k)

-- A crash at that moment may leave these files: they agree with the view outside the loose places. A file that is loose
-- as a whole has any bytes and any length, or is absent. Numbers over 255 count as bytes here, which makes more images:
-- what holds of all of them holds of the real ones.
abbrev pub IsImage : Moment → Files → Type 0
IsImage moment files = (id : FileId) → (IsLoose moment.loose (Whole id) → ⊥) → AgreesOutside moment.loose id (moment.view id) (files id)

-- Every moment until now, numbered from 0.
pub record History : Type 0 where
  pub now : ℕ
  pub past : ℕ → Moment

abbrev pub moment_of : History → Moment
moment_of h = h.past h.now

-- what a read answers now
abbrev pub view_of : History → Files
view_of h = (moment_of h).view

-- what is loose now
abbrev pub loose_of : History → List Place
loose_of h = (moment_of h).loose

-- Time went on from one history to the other: none of the past changed, and each moment on the way was `between`.
pub record Passes (old new : History) (between : Moment) : Type 0 where
  pub later : old.now ≤ new.now
  pub kept : (m : ℕ) → m ≤ old.now → new.past m ≡ old.past m
  pub inside : (m : ℕ) → old.now < m → m < new.now → new.past m ≡ between

-- a call that changes nothing
pub record IsStill (old new : History) : Type 0 where
  pub passes : Passes old new (moment_of old)
  pub same : moment_of new ≡ moment_of old

-- the moment with one place loose besides
abbrev pub loosened : Moment → Place → Moment
loosened moment place = record { view = moment.view; loose = place ∷ moment.loose }

-- the same files but at this one
abbrev pub SameBut : FileId → Files → Files → Type 0
SameBut id old new = (q : FileId) → q ≢ id → new q ≡ old q

-- a write that failed, and left its place loose and what is there unknown
pub record IsLeftLoose (old new : History) (place : Place) : Type 0 where
  pub passes : Passes old new (loosened (moment_of old) place)
  pub loose : loose_of new ≡ place ∷ loose_of old
  pub same : SameBut (file_of place) (view_of old) (view_of new)
  pub outside : IsImage (record { view = view_of old; loose = place ∷ [] }) (view_of new)

-- a write that failed: nothing came of it, or its place is loose
abbrev pub HasFailedAt : History → History → Place → Type 0
HasFailedAt old new place = IsStill old new ⊎ IsLeftLoose old new place

-- a write that was done
pub record IsWritten (old new : History) (place : Place) (content : Option (List ℕ)) : Type 0 where
  pub passes : Passes old new (loosened (moment_of old) place)
  pub loose : loose_of new ≡ place ∷ loose_of old
  pub same : SameBut (file_of place) (view_of old) (view_of new)
  pub there : view_of new (file_of place) ≡ content

-- the bytes with others over them from a place on
abbrev pub overwritten : List ℕ → ℕ → List ℕ → List ℕ
overwritten old start bytes = take start old ++ bytes ++ drop (start + length bytes) old

-- the range lies in the file
abbrev pub IsInFile : Option (List ℕ) → ℕ → ℕ → Type 0
IsInFile None start len = ⊥
IsInFile (Some bytes) start len = start + len ≤ length bytes

abbrev pub with_range : Option (List ℕ) → ℕ → List ℕ → Option (List ℕ)
with_range None start bytes = None
with_range (Some old) start bytes = Some (overwritten old start bytes)

abbrev pub HasWrittenWhole : History → History → FileId → List ℕ → d.Did → Type 0
HasWrittenWhole old new id bytes d.TheVariants.Done = IsWritten old new (Whole id) (Some bytes)
HasWrittenWhole old new id bytes d.TheVariants.Failed = HasFailedAt old new (Whole id)

abbrev pub HasWrittenAt : History → History → FileId → ℕ → List ℕ → d.Did → Type 0
HasWrittenAt old new id start bytes d.TheVariants.Done = IsWritten old new (Range id start (length bytes))
    (with_range (view_of old id) start bytes)
HasWrittenAt old new id start bytes d.TheVariants.Failed = HasFailedAt old new (Range id start (length bytes))

-- the places but those of one file
pub record IsSettled (id : FileId) (old new : List Place) : Type 0 where
  pub firm : IsFirm new id
  pub was : (p : Place) → IsLoose new p → IsLoose old p
  pub kept : (p : Place) → IsLoose old p → file_of p ≢ id → IsLoose new p

-- a sync that was done: what it settles is settled at its return
pub record IsSynced (old new : History) (id : FileId) : Type 0 where
  pub passes : Passes old new (moment_of old)
  pub view : view_of new ≡ view_of old
  pub loose : IsSettled id (loose_of old) (loose_of new)

-- a sync that failed: what is loose in the file stays so, and the view there isn't known
pub record IsNotSynced (old new : History) (id : FileId) : Type 0 where
  pub passes : Passes old new (moment_of old)
  pub loose : loose_of new ≡ loose_of old
  pub same : SameBut id (view_of old) (view_of new)
  pub outside : IsImage (moment_of old) (view_of new)

abbrev pub HasSynced : History → History → FileId → d.Did → Type 0
HasSynced old new id d.TheVariants.Done = IsSynced old new id
HasSynced old new id d.TheVariants.Failed = IsNotSynced old new id

abbrev pub HasLength : Option (List ℕ) → l.Length → Type 0
HasLength content (l.TheVariants.There n) = (bytes : List ℕ) × (content ≡ Some bytes) × (n ≡ length bytes)
HasLength content l.TheVariants.Absent = content ≡ None
HasLength content l.TheVariants.Failed = Unit {0}

abbrev pub HasRead : Option (List ℕ) → ℕ → List ℕ → g.Got → Type 0
HasRead content start into (g.TheVariants.Bytes n) = (bytes : List ℕ) × (content ≡ Some bytes)
    × (n ≡ min (length into) (length bytes - start)) × (take n into ≡ take n (drop start bytes))
HasRead content start into g.TheVariants.Absent = content ≡ None
HasRead content start into g.TheVariants.Failed = Unit {0}

abbrev pub IsWithin : ℕ → g.Got → Type 0
IsWithin most (g.TheVariants.Bytes n) = n ≤ most
IsWithin most g.TheVariants.Absent = Unit {0}
IsWithin most g.TheVariants.Failed = Unit {0}

-- the files with another content at one name
unfoldable pub with_file : FileId → Option (List ℕ) → Files → Files
with_file id content files q = elim (decide_id q id) [ inl here ↦ content | inr apart ↦ files q ]

-- a disk before its first call, with these files
pub record IsNewDisk (files : Files) (history : History) (faults : ℕ) : Type 0 where
  pub start : history.now ≡ 0
  pub firm : loose_of history ≡ []
  pub view : (id : FileId) → view_of history id ≡ files id
  pub no_fault : faults ≡ 0
