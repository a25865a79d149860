-- What follows from the definitions of the ledger.
use Rattle.std.specs.Prelude.{◌≡◌, ◌↔◌, ℕ, ◌≤◌, true, false, List, length, slice_index_or, Ok, Err, count_by}
use Rattle.cf_base.specs.declared.limits.TheConstants.{FRAMES}
use Rattle.cf_base.specs.declared.file.FileId.{FileId}
use Rattle.reel_disk.specs.Disk.{Files, Moment, History, moment_of, view_of}
use Rattle.reel_disk.specs.Runs.{Extends, Spares, Surely}
use Rattle.resume_ledger.specs.declared.layout.Version.TheVariants.{Two}
use Rattle.resume_ledger.specs.Body.{layout_of, IsOwn, closed_body}
use Rattle.resume_ledger.specs.Ledger.{LedgerState, IsLedgerFile, IsWrittenLedgerFile, Acks, IsFit, Agrees}
use Rattle.resume_ledger.specs.Sound.{Reel, IsNamed, IsSized, IsSoundAndFit, HasItsFiles}
use Rattle.resume_ledger.specs.Attach.{HasAttached}
use Rattle.resume_ledger.specs.Peek.{AcksMany, HasPeeked}
use Rattle.resume_ledger.specs.declared.attach.OpenFault.TheVariants.{OtherJob, BadLedger}

-- Which frames are acknowledged, and whether the files are fit, depends on the ledger's own files alone.
pub record ByItsFiles : Type 0 where
  pub acks : (digest : List ℕ) (count i : ℕ) (files others : Files) → ((q : FileId) → IsLedgerFile q → others q ≡ files q)
      → Acks digest count i files → Acks digest count i others
  pub fit : (digest : List ℕ) (count : ℕ) (files others : Files) → ((q : FileId) → IsLedgerFile q → others q ≡ files q)
      → IsFit digest count files → IsFit digest count others

-- Calls that spare the files of version 2 keep a ledger's agreement with the disk.
abbrev pub AgreesWhileSpared : Type 0
AgreesWhileSpared = (ledger : LedgerState) (old new : History) → Extends old new
    → Spares old new (λ q. IsWrittenLedgerFile q → ⊥) → Agrees (moment_of old) ledger → Agrees (moment_of new) ledger

-- Where a ledger agrees with the disk, whatever a crash leaves acknowledges just the frames that the ledger does.
abbrev pub AgreesIsShown : Type 0
AgreesIsShown = (moment : Moment) (ledger : LedgerState) → Agrees moment ledger → (i : ℕ)
    → Surely moment (λ files. (slice_index_or ledger.gates i false ≡ true) ↔ Acks ledger.digest (length ledger.gates) i files)

-- Sound files have those of a frame's length.
abbrev pub SoundHasItsFiles : Type 0
SoundHasItsFiles = (digest : List ℕ) (count : ℕ) (name : ℕ → FileId) (size : ℕ) (reel : Reel) (view : Files)
    → IsNamed count name reel → IsSized count size reel → IsSoundAndFit digest count reel view → HasItsFiles digest count name size view

-- A folder that is opened is not also refused, and a refused one has one refusal.
pub record OneAnswer : Type 0 where
  pub not_others : (digest : List ℕ) (count : ℕ) (name : ℕ → FileId) (size : ℕ) (old new other : History)
      (ledger : LedgerState) (kept wanted : List ℕ)
      → HasAttached digest count name size old new (Ok ledger) → HasAttached digest count name size old other (Err (OtherJob kept wanted))
      → ⊥
  pub not_bad : (digest : List ℕ) (count : ℕ) (name : ℕ → FileId) (size : ℕ) (old new other : History) (ledger : LedgerState) (len : ℕ)
      → HasAttached digest count name size old new (Ok ledger) → HasAttached digest count name size old other (Err (BadLedger len)) → ⊥
  pub one_refusal : (digest : List ℕ) (count : ℕ) (name : ℕ → FileId) (size : ℕ) (old new other : History) (kept wanted : List ℕ) (len : ℕ)
      → HasAttached digest count name size old new (Err (OtherJob kept wanted))
      → HasAttached digest count name size old other (Err (BadLedger len)) → ⊥

-- A peek has one number. It is that of the ledger that an attach would open, where each frame that version 1 acknowledges has a
-- file of a frame's length. A folder that has one is not also refused.
pub record OneNumber : Type 0 where
  pub same : (digest : List ℕ) (count : ℕ) (files : Files) (acked other : ℕ) → AcksMany digest count files acked
      → AcksMany digest count files other → acked ≡ other
  pub attached : (digest : List ℕ) (count : ℕ) (name : ℕ → FileId) (size : ℕ) (old new other : History) (ledger : LedgerState) (acked : ℕ)
      → HasItsFiles digest count name size (view_of old) → HasAttached digest count name size old new (Ok ledger)
      → HasPeeked digest count old other (Ok acked) → acked ≡ count_by (λ gate. gate) ledger.gates
  pub not_others : (digest : List ℕ) (count : ℕ) (old new other : History) (acked : ℕ) (kept wanted : List ℕ)
      → HasPeeked digest count old new (Ok acked) → HasPeeked digest count old other (Err (OtherJob kept wanted)) → ⊥
  pub not_bad : (digest : List ℕ) (count : ℕ) (old new other : History) (acked len : ℕ)
      → HasPeeked digest count old new (Ok acked) → HasPeeked digest count old other (Err (BadLedger len)) → ⊥

-- The closed body of a job is that job's.
abbrev pub ClosedBodyIsOwn : Type 0
ClosedBodyIsOwn = (digest : List ℕ) (count : ℕ) → length digest ≡ 32 → count ≤ FRAMES
    → IsOwn (layout_of Two) digest count (closed_body digest count)
