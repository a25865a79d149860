-- What the ledger's calls promise of a disk that tells, each call in one word. All of it is this project's own rule.
-- * call of the ledger: what it keeps at each moment, also after a fault, and which files it writes; and what it leaves where it
--   succeeds
--     IsSafeOpening      an opening, or a part of it
--     IsSafeNote, WasNoted      a note of a frame's record
--     IsSafeAck, WasAcked      an acknowledgement
use Rattle.std.specs.Prelude.{◌≡◌, ℕ, List, length}
use Rattle.cf_base.specs.declared.file.FileId.{FileId}
use Rattle.cf_base.specs.declared.file.FileId.TheVariants.{Body2}
use Rattle.reel_disk.specs.Disk.{History, moment_of, view_of}
use Rattle.reel_disk.specs.Runs.{Extends, Spares, StaysFirm}
use Rattle.resume_ledger.specs.Ledger.{Agrees, HasRecord, IsLedgerFile, IsWrittenLedgerFile, LedgerState}
use Rattle.resume_ledger.specs.Sound.{AddsNone, IsOpeningRun, LosesNone, OpensAtMost, OpensNone, RunsAnyReel, RunsReelsWith, SurelyAcks, WritesOnly, file_at}
use Rattle.resume_ledger.specs.Steps.{HasWrittenGate, HasWrittenRecord}

-- A crash at any moment of an opening leaves a folder whose acknowledged frames are the reel's. No acknowledgement is lost, where
-- each frame that version 1 acknowledges has a file of a frame's length; and none is made. No file but those of version 2 is
-- written, and none is changed that isn't the ledger's.
pub record IsSafeOpening (digest : List ℕ) (count : ℕ) (name : ℕ → FileId) (size : ℕ) (old new : History) : Type 0 where
  pub run : IsOpeningRun digest count name size old new
  pub adds_none : AddsNone digest count old new
  pub spares : Spares old new IsLedgerFile
  pub writes : WritesOnly old new IsWrittenLedgerFile

-- the same, of the files of the frames in their order
abbrev pub IsSafeOpeningOf : List ℕ → List FileId → ℕ → History → History → Type 0
IsSafeOpeningOf digest files size old new = IsSafeOpening digest (length files) (file_at files) size old new

-- A crash at any moment of a note leaves a folder whose acknowledged frames are the reel's, with their records, and no
-- acknowledgement is lost, whatever the reel is. No frame is acknowledged, and no file but the second body is written.
pub record IsSafeNote (ledger : LedgerState) (old new : History) : Type 0 where
  pub past : Extends old new
  pub run : RunsAnyReel ledger old new
  pub none_lost : LosesNone ledger old new
  pub others : OpensNone ledger old new
  pub spares : Spares old new (λ q. q ≡ Body2)

-- The record lies there, a crash keeps what was firm, and the ledger is the disk's.
pub record WasNoted (i : ℕ) (hash : List ℕ) (ledger : LedgerState) (old new : History) : Type 0 where
  pub noted : HasRecord i hash (view_of new)
  pub firm : StaysFirm old new
  pub written : HasWrittenRecord i hash old new
  pub agrees : Agrees (moment_of new) ledger

-- A crash at any moment of an acknowledgement of frame i leaves a folder whose acknowledged frames are the reel's, with their
-- records, where the frame is stored. No acknowledgement is lost, whatever the reel is. All other frames stay as they were, and
-- no file but the second body is written.
pub record IsSafeAck (i : ℕ) (ledger : LedgerState) (old new : History) : Type 0 where
  pub past : Extends old new
  pub run : RunsReelsWith i ledger old new
  pub none_lost : LosesNone ledger old new
  pub others : OpensAtMost i ledger old new
  pub spares : Spares old new (λ q. q ≡ Body2)

-- Each crash from now on finds the frame of the ledger before acknowledged, and the ledger after is the disk's.
pub record WasAcked (i : ℕ) (before after : LedgerState) (old new : History) : Type 0 where
  pub acked : SurelyAcks i before new
  pub written : HasWrittenGate i old new
  pub agrees : Agrees (moment_of new) after
