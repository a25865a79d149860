-- The reel of a job, and what a run of calls on its folder keeps: words of private clauses.
--     Acknowledges      what a call that acknowledges a frame makes of the ledger
use Rattle.std.specs.Prelude.{◌≡◌, ◌≢◌, ℕ, ◌<◌, Bool, true, List, length, set, Some, Result, OnOk, OnErr}
use Rattle.cf_base.specs.declared.file.FileId.{FileId}
use Rattle.sha2.specs.Sha256.{sha256}
use Rattle.reel_disk.specs.Disk.{History, IsFirm, Moment, loose_of, view_of}
use Rattle.reel_disk.specs.declared.disk.DiskFault.{DiskFault}
use Rattle.reel_disk.specs.Runs.{Extends, Spares, Surely}
use Rattle.resume_ledger.specs.Ledger.{Acks, Agrees, LedgerState}
use Rattle.resume_ledger.specs.Sound.{Reel, IsFrameFile, IsReel, StaysSound, KeepsAcks, AddsAtMost}
use Rattle.reel_writer.specs.Reel.{IsWrittenFile}

-- frame i of a reel has this file, which no other frame has, and these bytes
pub record HasFrame (count : ℕ) (reel : Reel) (i : ℕ) (file : FileId)
    (bytes : List ℕ) : Type 0 where
  pub named : (reel i).0 ≡ file
  pub holds : (reel i).1 ≡ bytes
  pub apart : (k : ℕ) → k < count → k ≢ i → (reel k).0 ≢ file

-- What a part of the finish of frame i keeps at each moment: no acknowledgement is lost, the reel
-- stays sound and fit, and all other frames and files stay as they were.
pub record IsFinishing (digest : List ℕ) (count i : ℕ) (file : FileId) (bytes : List ℕ)
    (old new : History) : Type 0 where
  pub past : Extends old new
  pub keeps : KeepsAcks digest count old new
  pub sound : (reel : Reel) → IsReel count reel → HasFrame count reel i file bytes
      → StaysSound digest count reel old new
  pub others : AddsAtMost i digest count old new
  pub spares : Spares old new (IsWrittenFile file)

-- The same for each frame file with this hash that is stored before the part begins.
abbrev pub FinishesStored : List ℕ → ℕ → ℕ → List ℕ → History → History → Type 0
FinishesStored digest count i hash old new = (file : FileId) (bytes : List ℕ) → IsFrameFile file
    → hash ≡ sha256 bytes → view_of old file ≡ Some bytes → IsFirm (loose_of old) file
    → IsFinishing digest count i file bytes old new

-- Frame i is acknowledged, at this moment and after each crash, and its gate is the only one that changed. Where that failed, the
-- ledger in memory says what it said.
pub record Acknowledges (tells : Bool) (i : ℕ) (result : Result (Unit {0}) DiskFault) (moment : Moment)
    (old new : LedgerState) : Type 0 where
  pub acked : OnOk result (tells ≡ true → Surely moment (Acks old.digest (length old.gates) i))
  pub agrees : OnOk result (tells ≡ true → Agrees moment new)
  pub marked : OnOk result (new ≡ record old { gates = set old.gates i true })
  pub digest : OnErr result (new.digest ≡ old.digest)
  pub gates : OnErr result (new.gates ≡ old.gates)
