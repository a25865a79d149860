-- What an attach answers.
-- * opening: which answer comes, by the view at the start; which frames a taking over keeps; which files may be written, by the
--   answer
--     HasAttached       over a disk that tells
--     IsAnswerTo, OpeningMayWrite        over any disk
use Rattle.std.specs.Prelude.{◌≡◌, ◌≢◌, ◌↔◌, ℕ, true, false, List, length, slice_index_or, Option, Some, None, Result, Ok, Err}
use Rattle.cf_base.specs.declared.file.FileId.{FileId}
use Rattle.cf_base.specs.declared.file.FileId.TheVariants.{Body2}
use Rattle.sha2.specs.Sha256.{sha256}
use Rattle.reel_disk.specs.Disk.{Files, History, moment_of, view_of}
use Rattle.reel_disk.specs.Runs.{Narrows}
use Rattle.resume_ledger.specs.declared.layout.Version.{Version}
use Rattle.resume_ledger.specs.declared.layout.Version.TheVariants.{One, Two}
use Rattle.resume_ledger.specs.Body.{Layout, layout_of, IsWellFormed, closed_body, digest_of}
use Rattle.resume_ledger.specs.Ledger.{LedgerState, IsInForce, IsSealed, IsFit, IsWrittenLedgerFile, HasRecord, Agrees, Acks}
use Rattle.resume_ledger.specs.Sound.{HasSize, file_at}
use Rattle.resume_ledger.specs.declared.attach.OpenFault.{OpenFault}
use Rattle.resume_ledger.specs.declared.attach.OpenFault.TheVariants.{OtherJob, BadLedger, DiskFault, NoMemory}

-- nothing was written, and a read answers as before
pub record IsUnwritten (old new : History) : Type 0 where
  pub narrows : Narrows old new
  pub view : view_of new ≡ view_of old

-- An open ledger of the job, whatever it acknowledges.
pub record IsOpenFor (digest : List ℕ) (count : ℕ) (ledger : LedgerState) : Type 0 where
  pub digest_is : ledger.digest ≡ digest
  pub size : length ledger.gates ≡ count
  pub is_open : ledger.closed ≡ false

-- An opening keeps the frame: the files acknowledge it, and where version 1 counts its file has the length of a frame's.
abbrev pub IsKept : List ℕ → ℕ → (ℕ → FileId) → ℕ → Files → ℕ → Type 0
IsKept digest count name size view i = Acks digest count i view × (IsInForce One view → HasSize size (view (name i)))

-- The folder was unsealed or this job's. It is sealed by version 2, the ledger has the frames that are kept, and a crash keeps it
-- so. An unsealed one has the closed body now, one of version 1 the SHA-256 of each kept frame's file as it was read, and
-- one of version 2 is as it was.
pub record IsOpened (digest : List ℕ) (count : ℕ) (name : ℕ → FileId) (size : ℕ) (before : Files)
    (new : History) (ledger : LedgerState) : Type 0 where
  pub fit : IsFit digest count before
  pub is : IsOpenFor digest count ledger
  pub gates : (i : ℕ) → (slice_index_or ledger.gates i false ≡ true) ↔ IsKept digest count name size before i
  pub agrees : Agrees (moment_of new) ledger
  pub made : (IsSealed before → ⊥) → view_of new Body2 ≡ Some (closed_body digest count)
  pub taken : IsInForce One before → (i : ℕ) → slice_index_or ledger.gates i false ≡ true
      → (bytes : List ℕ) → before (name i) ≡ Some bytes → HasRecord i (sha256 bytes) (view_of new)
  pub found : IsInForce Two before → view_of new ≡ before

-- the body is another job's
pub record IsOthers (layout : Layout) (digest kept wanted body : List ℕ) : Type 0 where
  pub well : IsWellFormed layout body
  pub kept_is : kept ≡ digest_of body
  pub wanted_is : wanted ≡ digest
  pub differ : digest_of body ≢ digest

-- 20.1: the body in force is another job's.
pub record IsOtherJob (digest kept wanted : List ℕ) (old new : History) : Type 0 where
  pub version : Version
  pub in_force : IsInForce version (view_of old)
  pub body : List ℕ
  pub there : view_of old (layout_of version).body ≡ Some body
  pub others : IsOthers (layout_of version) digest kept wanted body
  pub unwritten : IsUnwritten old new

-- the length of a file, 0 where it is absent
abbrev pub size_of : Option (List ℕ) → ℕ
size_of None = 0
size_of (Some bytes) = length bytes

-- no well-formed body, or one of this job with another number of frames
pub record IsBad (layout : Layout) (digest : List ℕ) (count len : ℕ) (content : Option (List ℕ)) : Type 0 where
  pub size : len ≡ size_of content
  pub bad : (body : List ℕ) → content ≡ Some body → IsWellFormed layout body → (digest_of body ≡ digest) × (length body ≢ layout.size count)

-- 20.2: the body in force is bad.
pub record IsBadLedger (digest : List ℕ) (count len : ℕ) (old new : History) : Type 0 where
  pub version : Version
  pub in_force : IsInForce version (view_of old)
  pub bad : IsBad (layout_of version) digest count len (view_of old (layout_of version).body)
  pub unwritten : IsUnwritten old new

-- A refusal, by what the disk held. Nothing is written but where the disk failed.
abbrev pub IsRefused : List ℕ → ℕ → History → History → OpenFault → Type 0
IsRefused digest count old new (OtherJob kept wanted) = IsOtherJob digest kept wanted old new
IsRefused digest count old new (BadLedger len) = IsBadLedger digest count len old new
IsRefused digest count old new DiskFault = Unit {0}
IsRefused digest count old new NoMemory = IsUnwritten old new

-- The answer of an attach, by what the disk held and holds. Want of memory comes before the first write.
abbrev pub HasAttached : List ℕ → ℕ → (ℕ → FileId) → ℕ → History → History → Result LedgerState OpenFault → Type 0
HasAttached digest count name size old new (Ok ledger) = IsOpened digest count name size (view_of old) new ledger
HasAttached digest count name size old new (Err fault) = IsRefused digest count old new fault

-- the same, of the files of the frames in their order
abbrev pub HasAttachedTo : List ℕ → List FileId → ℕ → History → History → Result LedgerState OpenFault → Type 0
HasAttachedTo digest files size old new result = HasAttached digest (length files) (file_at files) size old new result

-- What a refusal says of the job, also over a disk that does not tell.
abbrev pub IsRefusalFor : List ℕ → OpenFault → Type 0
IsRefusalFor digest (OtherJob kept wanted) = (kept ≢ wanted) × (wanted ≡ digest)
IsRefusalFor digest (BadLedger len) = Unit {0}
IsRefusalFor digest DiskFault = Unit {0}
IsRefusalFor digest NoMemory = Unit {0}

-- What an answer says of it.
abbrev pub IsAnswerTo : List ℕ → ℕ → Result LedgerState OpenFault → Type 0
IsAnswerTo digest count (Ok ledger) = IsOpenFor digest count ledger
IsAnswerTo digest count (Err fault) = IsRefusalFor digest fault

-- Which files an opening may write, by its answer: none where it is refused or no memory was left, else those of version 2.
abbrev pub OpeningMayWrite : Result LedgerState OpenFault → FileId → Type 0
OpeningMayWrite (Ok ledger) q = IsWrittenLedgerFile q
OpeningMayWrite (Err (OtherJob kept wanted)) q = ⊥
OpeningMayWrite (Err (BadLedger len)) q = ⊥
OpeningMayWrite (Err DiskFault) q = IsWrittenLedgerFile q
OpeningMayWrite (Err NoMemory) q = ⊥
