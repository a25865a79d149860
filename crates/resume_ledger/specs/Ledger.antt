-- What the files of a folder acknowledge, and the ledger that was read from them.
-- * version in force: that of the second seal where it is there, else that of the first
-- * acknowledges, fit, record: the body in force is the job's and the frame's gate is open; no seal, or the job's body; the
--   SHA-256 that the second body has of a frame
--     IsInForce               which version of the ledger counts
--     IsSealed, Acks, IsFit      of any files
--     LedgerState, Agrees        the ledger, and that it says what the disk holds
use Rattle.std.specs.Prelude.{◌≡◌, ◌⊎◌, ◌↔◌, ℕ, ◌<◌, ◌≤◌, ◌==◌, Bool, true, false, List, length, slice_index, slice_index_or, Some}
use Rattle.cf_base.specs.declared.limits.TheConstants.{FRAMES}
use Rattle.cf_base.specs.declared.file.FileId.{FileId}
use Rattle.cf_base.specs.declared.file.FileId.TheVariants.{Seal, Body, Seal2, Body2}
use Rattle.reel_disk.specs.Disk.{Files, Moment, IsFirm}
use Rattle.resume_ledger.specs.declared.layout.Version.{Version}
use Rattle.resume_ledger.specs.declared.layout.Version.TheVariants.{One, Two}
use Rattle.resume_ledger.specs.Body.{Layout, layout_of, IsOwn, record_of}

-- the files that a ledger is read from
abbrev pub IsLedgerFile : FileId → Type 0
IsLedgerFile id = (id ≡ Seal) ⊎ (id ≡ Body) ⊎ (id ≡ Seal2) ⊎ (id ≡ Body2)

-- those that may be written: the ones of version 2
abbrev pub IsWrittenLedgerFile : FileId → Type 0
IsWrittenLedgerFile id = (id ≡ Seal2) ⊎ (id ≡ Body2)

-- The seal's file is exactly the version's seal.
abbrev pub HasSeal : Version → Files → Type 0
HasSeal version files = files (layout_of version).seal ≡ Some (layout_of version).mark

-- Version 2 counts where its seal is there, and version 1 where its own is there and that of version 2 is not.
abbrev pub IsInForce : Version → Files → Type 0
IsInForce Two files = HasSeal Two files
IsInForce One files = (HasSeal Two files → ⊥) × HasSeal One files

abbrev pub IsSealed : Files → Type 0
IsSealed files = (version : Version) × IsInForce version files

-- the body of that version is this job's
pub record HasOwn (version : Version) (digest : List ℕ) (count : ℕ) (files : Files) : Type 0 where
  pub body : List ℕ
  pub there : files (layout_of version).body ≡ Some body
  pub own : IsOwn (layout_of version) digest count body

-- The files acknowledge frame i of the job: they are sealed, the body in force is this job's, and the frame's gate is `A`.
pub record Acks (digest : List ℕ) (count i : ℕ) (files : Files) : Type 0 where
  pub version : Version
  pub in_force : IsInForce version files
  pub has : HasOwn version digest count files
  pub within : i < count
  pub gate : slice_index has.body ((layout_of version).gate i) ≡ 65

-- They are unsealed, or the body in force is this job's.
abbrev pub IsFit : List ℕ → ℕ → Files → Type 0
IsFit digest count files = (version : Version) → IsInForce version files → HasOwn version digest count files

-- the body of version 2 has this record of frame i
pub record HasRecord (i : ℕ) (hash : List ℕ) (files : Files) : Type 0 where
  pub body : List ℕ
  pub there : files Body2 ≡ Some body
  pub is : record_of body i ≡ hash

-- A ledger as its callers see it: one flag for each frame, and whether a fault has closed it.
pub record LedgerState : Type 0 where
  pub digest : List ℕ
  pub gates : List Bool
  pub closed : Bool

-- of a ledger's fields
pub record IsLedger (digest : List ℕ) (gates : List Bool) : Type 0 where
  pub digest_size : length digest ≡ 32
  pub not_empty : 1 ≤ length gates
  pub most : length gates ≤ FRAMES

-- The flags acknowledge what the files do.
pub record AreFlagsOf (digest : List ℕ) (count : ℕ) (files : Files) (flags : List Bool) : Type 0 where
  pub size : length flags ≡ count
  pub flags_are : (i : ℕ) → (slice_index_or flags i false ≡ true) ↔ Acks digest count i files

-- the flags of a body: which gates have the byte `A`
pub record AreGatesOf (layout : Layout) (body : List ℕ) (count : ℕ) (flags : List Bool) : Type 0 where
  pub size : length flags ≡ count
  pub each : (i : ℕ) → i < count → slice_index_or flags i false ≡ (slice_index body (layout.gate i) == 65)

-- The ledger agrees with the disk: the view is sealed by version 2, the body is its job's and acknowledges just the frames
-- that it does, and a crash keeps both files.
pub record Agrees (moment : Moment) (ledger : LedgerState) : Type 0 where
  pub sealed : IsInForce Two moment.view
  pub has : HasOwn Two ledger.digest (length ledger.gates) moment.view
  pub gates : AreGatesOf (layout_of Two) has.body (length ledger.gates) ledger.gates
  pub firm_seal : IsFirm moment.loose Seal2
  pub firm_body : IsFirm moment.loose Body2
