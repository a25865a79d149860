-- What a reel should be, and what a run of calls keeps of it at each moment.
-- * sound, run: the file of each acknowledged frame is the reel's, and in version 2 its record is that file's SHA-256, for any
--   map from frames to a file and its bytes; what a run of calls keeps at each moment, and what an opening keeps, which may take
--   over version 1
use Rattle.std.specs.Prelude.{◌≡◌, ◌≢◌, ◌↔◌, ℕ, ◌<◌, ◌≤◌, List, length, slice_index_or, Option, Some}
use Rattle.cf_base.specs.declared.file.FileId.{FileId}
use Rattle.cf_base.specs.declared.file.FileId.TheVariants.{Frame, Seal}
use Rattle.sha2.specs.Sha256.{sha256}
use Rattle.reel_disk.specs.declared.disk.Place.{Place}
use Rattle.reel_disk.specs.Disk.{Files, Moment, IsImage, IsFirm, IsLoose, file_of, History, moment_of, view_of, loose_of}
use Rattle.reel_disk.specs.Runs.{Extends, LeavesOnly, Narrows, Surely, NeverForgets, StaysSo}
use Rattle.resume_ledger.specs.declared.layout.Version.TheVariants.{One, Two}
use Rattle.resume_ledger.specs.Ledger.{IsInForce, LedgerState, Acks, IsFit, HasRecord}

-- for each frame a file and its bytes
abbrev pub Reel : Type 0
Reel = ℕ → FileId × List ℕ

abbrev pub IsFrameFile : FileId → Type 0
IsFrameFile id = (reel : ℕ) × (frame : ℕ) × (id ≡ Frame reel frame)

-- the files of frames are frame files
abbrev pub IsReel : ℕ → Reel → Type 0
IsReel count reel = (i : ℕ) → i < count → IsFrameFile (reel i).0

-- Sound, of one frame: its file is the reel's, and where version 2 counts its record is the SHA-256 (FIPS 180-4) of that file.
pub record IsSoundAt (reel : Reel) (i : ℕ) (files : Files) : Type 0 where
  pub file : files (reel i).0 ≡ Some (reel i).1
  pub hash : IsInForce Two files → HasRecord i (sha256 (reel i).1) files

-- Sound: each frame that is acknowledged is.
abbrev pub IsSound : List ℕ → ℕ → Reel → Files → Type 0
IsSound digest count reel files = (i : ℕ) → Acks digest count i files → IsSoundAt reel i files

pub record IsSoundAndFit (digest : List ℕ) (count : ℕ) (reel : Reel) (files : Files) : Type 0 where
  pub sound : IsSound digest count reel files
  pub fit : IsFit digest count files

-- The frame's file is on the disk as the reel has it, and a crash keeps it so. Its record is its SHA-256.
pub record IsStored (moment : Moment) (reel : Reel) (i : ℕ) : Type 0 where
  pub there : moment.view (reel i).0 ≡ Some (reel i).1
  pub firm : IsFirm moment.loose (reel i).0
  pub noted : HasRecord i (sha256 (reel i).1) moment.view

-- Where whatever a crash leaves at the start is sound and fit, it is so at each moment.
abbrev pub StaysSound : List ℕ → ℕ → Reel → History → History → Type 0
StaysSound digest count reel old new = StaysSo old new (IsSoundAndFit digest count reel)

-- No acknowledgement is lost.
abbrev pub KeepsAcks : List ℕ → ℕ → History → History → Type 0
KeepsAcks digest count old new = (k : ℕ) → NeverForgets old new (Acks digest count k)

-- Through a run of calls that was begun on sound and fit files, whatever a crash leaves is sound and fit. However it was
-- begun, no acknowledgement is lost.
pub record IsRun (digest : List ℕ) (count : ℕ) (reel : Reel) (old new : History) : Type 0 where
  pub extends : Extends old new
  pub sound : StaysSound digest count reel old new
  pub keeps : KeepsAcks digest count old new

-- some files that a crash may leave at that moment have P
abbrev pub Possibly : Moment → (Files → Type 0) → Type 0
Possibly moment P = (files : Files) × IsImage moment files × P files

-- No acknowledgement is made: a frame that a crash leaves acknowledged, a crash at the start may have left so, too.
abbrev pub AddsNone : List ℕ → ℕ → History → History → Type 0
AddsNone digest count old new = (k : ℕ) → LeavesOnly old new (λ files. Acks digest count k files
    → Possibly (moment_of old) (Acks digest count k))

-- A crash at any moment leaves just those frames acknowledged that the view had so at the start.
abbrev pub AddsNothing : List ℕ → ℕ → History → History → Type 0
AddsNothing digest count old new = (k : ℕ) → LeavesOnly old new (λ files. Acks digest count k files ↔ Acks digest count k (view_of old))

-- Of all other frames a crash at any moment leaves acknowledged just those that the view had so at the start.
abbrev pub AddsAtMost : ℕ → List ℕ → ℕ → History → History → Type 0
AddsAtMost i digest count old new = (k : ℕ) → k ≢ i → LeavesOnly old new (λ files. Acks digest count k files
    ↔ Acks digest count k (view_of old))

-- The same of a ledger's job: it is a run, whatever the reel is, or of each reel that has frame i stored; no acknowledgement is
-- lost; none is made; none but that of frame i is made; and a crash now leaves frame i acknowledged.
abbrev pub RunsAnyReel : LedgerState → History → History → Type 0
RunsAnyReel ledger old new = (reel : Reel) → IsReel (length ledger.gates) reel → IsRun ledger.digest (length ledger.gates) reel old new

abbrev pub RunsReelsWith : ℕ → LedgerState → History → History → Type 0
RunsReelsWith i ledger old new = (reel : Reel) → IsReel (length ledger.gates) reel → IsStored (moment_of old) reel i
    → IsRun ledger.digest (length ledger.gates) reel old new

abbrev pub LosesNone : LedgerState → History → History → Type 0
LosesNone ledger old new = KeepsAcks ledger.digest (length ledger.gates) old new

abbrev pub OpensNone : LedgerState → History → History → Type 0
OpensNone ledger old new = AddsNothing ledger.digest (length ledger.gates) old new

abbrev pub OpensAtMost : ℕ → LedgerState → History → History → Type 0
OpensAtMost i ledger old new = AddsAtMost i ledger.digest (length ledger.gates) old new

abbrev pub SurelyAcks : ℕ → LedgerState → History → Type 0
SurelyAcks i ledger new = Surely (moment_of new) (Acks ledger.digest (length ledger.gates) i)

-- The rest is said of an opening, which may take over a folder of version 1.

-- the file of frame i among these
abbrev pub file_at : List FileId → ℕ → FileId
file_at files i = slice_index_or files i Seal

-- the reel's frames have these files
abbrev pub IsNamed : ℕ → (ℕ → FileId) → Reel → Type 0
IsNamed count name reel = (i : ℕ) → i < count → (reel i).0 ≡ name i

-- each frame's file has that many bytes
abbrev pub IsSized : ℕ → ℕ → Reel → Type 0
IsSized count size reel = (i : ℕ) → i < count → length (reel i).1 ≡ size

-- a file is there, and has that many bytes
abbrev pub HasSize : ℕ → Option (List ℕ) → Type 0
HasSize size content = (bytes : List ℕ) × (content ≡ Some bytes) × (length bytes ≡ size)

-- Each frame that version 1 acknowledges has a file of a frame's length.
abbrev pub HasItsFiles : List ℕ → ℕ → (ℕ → FileId) → ℕ → Files → Type 0
HasItsFiles digest count name size view = IsInForce One view → (i : ℕ) → Acks digest count i view → HasSize size (view (name i))

-- What an opening keeps: as a run, but no acknowledgement is lost where each frame that version 1 acknowledges has a file of a
-- frame's length. Where the opening is sound it has.
pub record IsOpeningRun (digest : List ℕ) (count : ℕ) (name : ℕ → FileId) (size : ℕ) (old new : History) : Type 0 where
  pub extends : Extends old new
  pub sound : (reel : Reel) → IsNamed count name reel → StaysSound digest count reel old new
  pub keeps : HasItsFiles digest count name size (view_of old) → KeepsAcks digest count old new

-- the same, of the files of the frames in their order
abbrev pub IsOpeningRunOf : List ℕ → List FileId → ℕ → History → History → Type 0
IsOpeningRunOf digest files size old new = IsOpeningRun digest (length files) (file_at files) size old new

-- where version 2 counts, nothing is written
abbrev pub OnlyReadsSecond : History → History → Type 0
OnlyReadsSecond old new = IsInForce Two (view_of old) → Narrows old new

-- No file was written but those that are `Mine`: any other of which nothing was loose is as it was, and no place of another
-- became loose.
pub record WritesOnly (old new : History) (Mine : FileId → Type 0) : Type 0 where
  pub files : (m : ℕ) → old.now ≤ m → m ≤ new.now → (q : FileId) → (Mine q → ⊥) → IsFirm (loose_of old) q
      → (new.past m).view q ≡ view_of old q
  pub loose : (m : ℕ) → old.now ≤ m → m ≤ new.now → (p : Place) → (Mine (file_of p) → ⊥) → IsLoose (new.past m).loose p
      → IsLoose (loose_of old) p
