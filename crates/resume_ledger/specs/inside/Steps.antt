-- What is said of parts of the ledger's calls: words of private clauses.
use Rattle.std.specs.Prelude.{◌≡◌, ◌↔◌, ℕ, ◌<◌, ◌≤◌, Bool, true, false, List, length, take, slice_index, slice_index_or, Option, Some, None, Result, Ok, Err, Vec}
use Rattle.std.specs.declared.alloc.Global.{Global}
use Rattle.cf_base.specs.declared.file.FileId.{FileId}
use Rattle.cf_base.specs.declared.file.FileId.TheVariants.{Seal, Seal2}
use Rattle.sha2.specs.Sha256.{sha256}
use Rattle.reel_disk.specs.Disk.{Files, Moment, History, moment_of, view_of, loose_of, IsFirm, with_range}
use Rattle.reel_disk.specs.Runs.{Narrows, Spares, StaysFirm}
use Rattle.resume_ledger.specs.declared.layout.Version.{Version}
use Rattle.resume_ledger.specs.declared.layout.Version.TheVariants.{One, Two}
use Rattle.resume_ledger.specs.Body.{Layout, layout_of, IsOwn, closed_body, record_of}
use Rattle.resume_ledger.specs.Ledger.{IsLedgerFile, IsWrittenLedgerFile, IsInForce, IsSealed, HasOwn, IsFit, AreFlagsOf}
use Rattle.resume_ledger.specs.Sound.{IsFrameFile, HasSize, file_at, WritesOnly}
use Rattle.resume_ledger.specs.Safe.{IsSafeOpening}
use Rattle.resume_ledger.specs.Attach.{IsKept, IsRefused, IsRefusalFor, size_of}
use Rattle.resume_ledger.specs.declared.attach.OpenFault.{OpenFault}
use Rattle.resume_ledger.specs.declared.attach.OpenFault.TheVariants.{OtherJob, BadLedger, DiskFault, NoMemory}
use Rattle.resume_ledger.specs.Steps.{IsFirmly}

-- these bytes stand over a file's from a place on, and a crash keeps them so
abbrev pub IsPatchedFirmly : History → History → FileId → ℕ → List ℕ → Type 0
IsPatchedFirmly old new id start bytes = IsFirmly old new id (with_range (view_of old id) start bytes)

-- calls that sync the ledger's files and read any
pub record IsReading (old new : History) : Type 0 where
  pub narrows : Narrows old new
  pub spares : Spares old new IsLedgerFile
  pub writes : WritesOnly old new IsWrittenLedgerFile

-- a file was read, after a sync of it
pub record IsReadFirmly (id : FileId) (old new : History) : Type 0 where
  pub view : view_of new ≡ view_of old
  pub firm : IsFirm (loose_of new) id
  pub others : StaysFirm old new

-- the body of a version was read, after a sync of it
abbrev pub ReadsBody : Version → History → History → Type 0
ReadsBody version old new = IsReadFirmly (layout_of version).body old new

-- what a read of a body finds
abbrev pub HasBody : Layout → Option (List ℕ) → Result (Vec ℕ Global) OpenFault → Type 0
HasBody layout content (Ok body) = content ≡ Some body.items
HasBody layout content (Err (OtherJob kept wanted)) = ⊥
HasBody layout content (Err (BadLedger len)) = (len ≡ size_of content) × ((body : List ℕ) → content ≡ Some body → layout.most < length body)
HasBody layout content (Err DiskFault) = Unit {0}
HasBody layout content (Err NoMemory) = Unit {0}

-- what is known of it over any disk
abbrev pub HasRead : Layout → Result (Vec ℕ Global) OpenFault → Type 0
HasRead layout (Ok body) = length body.items ≤ layout.most
HasRead layout (Err (OtherJob kept wanted)) = ⊥
HasRead layout (Err (BadLedger len)) = Unit {0}
HasRead layout (Err DiskFault) = Unit {0}
HasRead layout (Err NoMemory) = Unit {0}

-- the version in force
abbrev pub IsVersionOf : Files → Option Version → Type 0
IsVersionOf files (Some version) = IsInForce version files
IsVersionOf files None = (version : Version) → IsInForce version files → ⊥

-- what a folder of version 1 acknowledges, and a crash keeps so
pub record IsAckedFirmly (digest : List ℕ) (count : ℕ) (old new : History) (gates : List Bool) : Type 0 where
  pub read : IsReadFirmly (layout_of One).body old new
  pub has : HasOwn One digest count (view_of old)
  pub flags : AreFlagsOf digest count (view_of old) gates

abbrev pub HasAcked : List ℕ → ℕ → History → History → Result (Vec Bool Global) OpenFault → Type 0
HasAcked digest count old new (Ok gates) = IsAckedFirmly digest count old new gates.items
HasAcked digest count old new (Err fault) = IsRefused digest count old new fault

abbrev pub IsAckedFor : List ℕ → ℕ → Result (Vec Bool Global) OpenFault → Type 0
IsAckedFor digest count (Ok gates) = length gates.items ≡ count
IsAckedFor digest count (Err fault) = IsRefusalFor digest fault

-- A folder before version 2 counts, once its seals, and the body where version 1 counts, were synced and read.
pub record IsOlder (digest : List ℕ) (count : ℕ) (moment : Moment) : Type 0 where
  pub not_second : IsInForce Two moment.view → ⊥
  pub firm_second : IsFirm moment.loose Seal2
  pub firm_first : IsFirm moment.loose Seal
  pub firm_body : IsInForce One moment.view → IsFirm moment.loose (layout_of One).body
  pub fit : IsFit digest count moment.view

-- The body that version 2 begins with: just the kept frames have an open gate, and with it the SHA-256 of their files.
pub record IsFirstBody (digest : List ℕ) (count : ℕ) (name : ℕ → FileId) (size : ℕ) (view : Files) (body : List ℕ) : Type 0 where
  pub own : IsOwn (layout_of Two) digest count body
  pub gates : (i : ℕ) → i < count → (slice_index body ((layout_of Two).gate i) ≡ 65) ↔ IsKept digest count name size view i
  pub hashes : (i : ℕ) → i < count → slice_index body ((layout_of Two).gate i) ≡ 65
      → (bytes : List ℕ) → view (name i) ≡ Some bytes → record_of body i ≡ sha256 bytes

-- What is read before the first write, and the body that comes of it.
pub record IsReadyFor (digest : List ℕ) (count : ℕ) (name : ℕ → FileId) (size : ℕ) (old new : History) (body : List ℕ) : Type 0 where
  pub view : view_of new ≡ view_of old
  pub older : IsOlder digest count (moment_of new)
  pub first : IsFirstBody digest count name size (view_of new) body
  pub made : (IsSealed (view_of new) → ⊥) → body ≡ closed_body digest count

abbrev pub HasFirstBody : List ℕ → ℕ → (ℕ → FileId) → ℕ → History → History → Result (Vec ℕ Global) OpenFault → Type 0
HasFirstBody digest count name size old new (Ok body) = IsReadyFor digest count name size old new body.items
HasFirstBody digest count name size old new (Err fault) = IsRefused digest count old new fault

-- the same, of the files of the frames in their order
abbrev pub HasFirstBodyOf : List ℕ → List FileId → ℕ → History → History → Result (Vec ℕ Global) OpenFault → Type 0
HasFirstBodyOf digest files size old new result = HasFirstBody digest (length files) (file_at files) size old new result

abbrev pub IsFirstFor : List ℕ → ℕ → Result (Vec ℕ Global) OpenFault → Type 0
IsFirstFor digest count (Ok body) = length body.items ≡ (layout_of Two).size count
IsFirstFor digest count (Err fault) = IsRefusalFor digest fault

-- the gate and the record that one frame gets, by whether it was acknowledged and by its file
pub record IsRecorded (open_gate : Bool) (content : Option (List ℕ)) (size : ℕ) (body : List ℕ) (i : ℕ) : Type 0 where
  pub opens : (slice_index body ((layout_of Two).gate i) ≡ 65) ↔ ((open_gate ≡ true) × HasSize size content)
  pub hash : slice_index body ((layout_of Two).gate i) ≡ 65 → (bytes : List ℕ) → content ≡ Some bytes → record_of body i ≡ sha256 bytes

-- all frames have what they get, and the head is as it was
pub record AreRecorded (gates : List Bool) (count : ℕ) (name : ℕ → FileId) (size : ℕ) (view : Files) (old new : List ℕ) : Type 0 where
  pub head : take 64 new ≡ take 64 old
  pub each : (i : ℕ) → i < count → IsRecorded (slice_index_or gates i false) (view (name i)) size new i

-- the same, of the files of the frames in their order
abbrev pub AreNoted : List Bool → List FileId → ℕ → History → (old new : List ℕ) → Type 0
AreNoted gates files size history old new = AreRecorded gates (length files) (file_at files) size (view_of history) old new

-- version 2 is in force, with this body, and a crash keeps it so
pub record IsBegun (body : List ℕ) (moment : Moment) : Type 0 where
  pub sealed : IsInForce Two moment.view
  pub there : moment.view (layout_of Two).body ≡ Some body
  pub firm_seal : IsFirm moment.loose Seal2
  pub firm_body : IsFirm moment.loose (layout_of Two).body

-- Where a folder before version 2 counts is ready for this body, its writing is a part of the opening, whatever the job is.
abbrev pub TakesOver : List ℕ → History → History → Type 0
TakesOver body old new = (digest : List ℕ) (count : ℕ) (name : ℕ → FileId) (size : ℕ) → ((i : ℕ) → i < count → IsFrameFile (name i))
    → IsOlder digest count (moment_of old) → IsFirstBody digest count name size (view_of old) body
    → IsSafeOpening digest count name size old new
