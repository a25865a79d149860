-- What a peek answers.
--     HasPeeked       over a disk that tells
--     IsPeekFor       over any disk
use Rattle.std.specs.Prelude.{◌≡◌, ℕ, ◌≤◌, Bool, List, Result, Ok, Err, count_by}
use Rattle.reel_disk.specs.Disk.{Files, History, view_of}
use Rattle.resume_ledger.specs.Ledger.{IsFit, AreFlagsOf}
use Rattle.resume_ledger.specs.Attach.{IsRefused, IsRefusalFor}
use Rattle.resume_ledger.specs.declared.attach.OpenFault.{OpenFault}

-- The files are unsealed or this job's, and acknowledge that many frames of it.
pub record AcksMany (digest : List ℕ) (count : ℕ) (files : Files) (acked : ℕ) : Type 0 where
  pub fit : IsFit digest count files
  pub flags : List Bool
  pub acks : AreFlagsOf digest count files flags
  pub number : acked ≡ count_by (λ gate. gate) flags

-- The answer of a peek: the number of frames that the files acknowledge, or the refusal of an attach.
abbrev pub HasPeeked : List ℕ → ℕ → History → History → Result ℕ OpenFault → Type 0
HasPeeked digest count old new (Ok acked) = AcksMany digest count (view_of old) acked
HasPeeked digest count old new (Err fault) = IsRefused digest count old new fault

-- What an answer says of the job, also over a disk that does not tell.
abbrev pub IsPeekFor : List ℕ → ℕ → Result ℕ OpenFault → Type 0
IsPeekFor digest count (Ok acked) = acked ≤ count
IsPeekFor digest count (Err fault) = IsRefusalFor digest fault
