-- What a disk is at a moment, and what each call leaves of it. All of it is this project's own rule.
-- * state of a disk: its moments until now, how often it has failed, the calls that were made on it, and how it is lent; a call
--   leaves it lent as it was, and its count of faults rises where the call failed for one, and else stays
--     DiskState      its moments until now, how often it has failed, the calls that were made on it, and how it is lent
--     LeavesDisk      what a call leaves of it, whatever it comes to
--     OnlyReads      what a call leaves of it that only reads
--     FolderState, folder_state      what a folder's disk tells at a moment, its count of faults, and the calls that were made on it
--     OnDisk      what a call made of a disk
use Rattle.std.specs.Prelude.{◌≡◌, ℕ, Bool, true, List, ◌∷◌}
use Rattle.cf_base.specs.Count.{CountsFaults}
use Rattle.reel_disk.specs.Call.{Call, writes_in}
use Rattle.reel_disk.specs.Disk.{History, IsStill}
use Rattle.cf_base.specs.Loan.{Loan}

-- The count never falls, and stays at 2^64 - 1 once it is there. The newest call comes first, and so does the outermost loan; a
-- disk that isn't lent has none.
pub record DiskState : Type 0 where
  pub history : History
  pub faults : ℕ
  pub calls : List Call
  pub loans : List Loan

-- the same, lent once more
abbrev pub lent_by : Loan → DiskState → DiskState
lent_by loan disk = record disk { loans = loan ∷ disk.loans }

-- What a call leaves of a disk, whatever it comes to.
pub record LeavesDisk (Failed : Type 0) (before after : DiskState) : Type 0 where
  pub counts : CountsFaults Failed before.faults after.faults
  pub lent : after.loans ≡ before.loans

-- What a call that only reads leaves of a disk: what it tells of its files stays at every moment, and no write and no sync was made.
pub record OnlyReads (tells : Bool) (before after : DiskState) : Type 0 where
  pub still : tells ≡ true → IsStill before.history after.history
  pub writes : writes_in after.calls ≡ writes_in before.calls

-- What a clause says of a disk, whether it tells or not: all but how it is lent.
pub record FolderState : Type 0 where
  pub tells : Bool
  pub history : History
  pub faults : ℕ
  pub calls : List Call

abbrev pub folder_state : Bool → DiskState → FolderState
folder_state tells disk = record { tells = tells; history = disk.history; faults = disk.faults; calls = disk.calls }

-- what a call made of a disk: this is so of the folder before the call and of the folder after it
abbrev pub OnDisk : {A : Type 1} → Bool → (before after : DiskState) → (FolderState → FolderState → A) → A
OnDisk tells before after Made = Made (folder_state tells before) (folder_state tells after)
