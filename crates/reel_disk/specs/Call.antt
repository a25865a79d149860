-- One call on a disk, with what it was given and what it answered. All of it is this project's own rule.
-- * call on a disk: of which kind, on which file, from which byte on, with which bytes, and what it answered; which files the calls
--   write that were made since others
--     Call      one call
--     writes_in calls      the writes and the syncs among calls: where they are as before, the calls since then only read
--     OnlyWrites May before after      the calls since then write no file but those that `May` names
use Rattle.std.specs.Prelude.{◌≡◌, ℕ, List, [], ◌∷◌, ◌++◌, All}
use Rattle.cf_base.specs.declared.file.FileId.{FileId}
use Rattle.reel_disk.specs.declared.disk.Length.{Length}
use Rattle.reel_disk.specs.declared.disk.Got.{Got}
use Rattle.reel_disk.specs.declared.disk.Did.{Did}

pub data Call : Type 0 where
  -- how long the file is
  Measured : FileId → Length → Call
  -- a read from a byte on; the list is the whole buffer behind it, whose first bytes are what was read
  Read : FileId → (start : ℕ) → (into : List ℕ) → Got → Call
  Wrote : FileId → (bytes : List ℕ) → Did → Call
  Patched : FileId → (start : ℕ) → (bytes : List ℕ) → Did → Call
  Synced : FileId → Did → Call

-- before others, where it is a write or a sync
abbrev pub with_write : Call → List Call → List Call
with_write (Measured id len) writes = writes
with_write (Read id start into got) writes = writes
with_write (Wrote id bytes did) writes = Wrote id bytes did ∷ writes
with_write (Patched id start bytes did) writes = Patched id start bytes did ∷ writes
with_write (Synced id did) writes = Synced id did ∷ writes

-- the writes and the syncs among calls, the newest first
abbrev pub writes_in : List Call → List Call
writes_in [] = []
writes_in (call ∷ calls) = with_write call (writes_in calls)

-- a call that writes no file, or one that `May` names; a sync changes no byte
abbrev pub IsOwnCall : (May : FileId → Type 0) → Call → Type 0
IsOwnCall May (Wrote id bytes did) = May id
IsOwnCall May (Patched id start bytes did) = May id
IsOwnCall May call = Unit {0}

-- The writes and the syncs are those before and, in front of them, those made since, each of which is such a call.
pub record OnlyWrites (May : FileId → Type 0) (before after : List Call) : Type 0 where
  pub since : List Call
  pub made : writes_in after ≡ since ++ writes_in before
  pub own : All (IsOwnCall May) since
