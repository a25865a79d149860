-- Which files of a folder a call reads, and what their reads gave. It holds over every disk, and all of it is this project's own rule.
-- * a file that is read whole: its length, and one read that gives so many bytes; a file that was hashed: what reads of it gave has
--   that SHA-256; files that are read once: behind a read that gave all that it asked for, none begins the same file anew
--     MakesOnly On before after      the calls since then are on those files alone
--     ReadsWhole id bytes before after      the calls that read a file whole
--     WasReadWhole id bytes calls      these are among some calls
--     WasHashed id digest calls      a file was read whole, or piece by piece, and what these calls gave has this SHA-256
--     AsksWhole id size result before after      the calls that ask for a file of so many bytes, whatever they give
--     ReadsOnce before after      the calls since then read no file twice
use Rattle.std.specs.Prelude.{◌≡◌, ◌≢◌, ◌⊎◌, ℕ, Bool, true, false, List, ◌∷◌, ◌++◌, length, All, AllPairs, Result, Ok, Err}
use Rattle.sha2.specs.Sha256.{sha256}
use Rattle.cf_base.specs.declared.file.FileId.{FileId}
use Rattle.reel_disk.specs.declared.disk.DiskFault.{DiskFault}
use Rattle.reel_disk.specs.declared.disk.Got.{Got}
use Rattle.reel_disk.specs.declared.disk.Got.TheVariants.{Bytes, Failed as Unread}
use Rattle.reel_disk.specs.declared.disk.Length.{Length}
use Rattle.reel_disk.specs.declared.disk.Length.TheVariants.{There, Failed as Unmeasured}
use Rattle.reel_disk.specs.Call.{Call, Measured, Read, Wrote, Patched, Synced}
use Rattle.resume_ledger.specs.OpeningCalls.{Digests}

-- a call on one of these files
abbrev pub IsOn : (On : FileId → Type 0) → Call → Type 0
IsOn On (Measured id len) = On id
IsOn On (Read id start into got) = On id
IsOn On (Wrote id bytes did) = On id
IsOn On (Patched id start bytes did) = On id
IsOn On (Synced id did) = On id

-- The calls are those before and, in front of them, those made since, each of which is on such a file.
pub record MakesOnly (On : FileId → Type 0) (before after : List Call) : Type 0 where
  pub since : List Call
  pub made : after ≡ since ++ before
  pub each : All (IsOn On) since

abbrev pub ReadsWhole : FileId → List ℕ → (before after : List Call) → Type 0
ReadsWhole id bytes before after = after ≡ Read id 0 bytes (Bytes (length bytes)) ∷ Measured id (There (length bytes)) ∷ before

-- what was made between two moments, of which the later one lies among these calls
pub record WasMade (Made : (before after : List Call) → Type 0) (calls : List Call) : Type 0 where
  pub before : List Call
  pub after : List Call
  pub newer : List Call
  pub made : Made before after
  pub among : calls ≡ newer ++ after

abbrev pub WasReadWhole : FileId → List ℕ → List Call → Type 0
WasReadWhole id bytes calls = WasMade (ReadsWhole id bytes) calls

abbrev pub WasHashed : FileId → List ℕ → List Call → Type 0
WasHashed id digest calls = WasMade (Digests id digest) calls ⊎ ((bytes : List ℕ) × (digest ≡ sha256 bytes) × WasReadWhole id bytes calls)

-- What is asked to read a file of so many bytes whole: its length and, if it is as long, one read of all of it.
abbrev pub AsksWhole : FileId → ℕ → Result Bool DiskFault → (before after : List Call) → Type 0
AsksWhole id size (Ok true) before after = (bytes : List ℕ) × (length bytes ≡ size) × ReadsWhole id bytes before after
AsksWhole id size (Ok false) before after = ((len : Length) × (after ≡ Measured id len ∷ before))
    ⊎ ((into : List ℕ) × (got : Got) × (length into ≡ size) × (got ≢ Bytes size)
    × (after ≡ Read id 0 into got ∷ Measured id (There size) ∷ before))
AsksWhole id size (Err fault) before after = (after ≡ Measured id Unmeasured ∷ before)
    ⊎ ((into : List ℕ) × (after ≡ Read id 0 into Unread ∷ Measured id (There size) ∷ before))

-- a read of a file from its first byte on
abbrev pub Begins : FileId → Call → Type 0
Begins id (Read of start into got) = (of ≡ id) × (start ≡ 0)
Begins id call = ⊥

-- one that gave as many bytes as it asked for
abbrev pub GivesAll : FileId → Call → Type 0
GivesAll id (Read of start into got) = (of ≡ id) × (start ≡ 0) × (got ≡ Bytes (length into))
GivesAll id call = ⊥

-- none of these calls is one
abbrev pub HasNotGiven : FileId → List Call → Type 0
HasNotGiven id calls = All (λ call. GivesAll id call → ⊥) calls

-- Of two calls the newer one doesn't begin a file of which the older one gave all.
abbrev pub IsOnce : (newer older : Call) → Type 0
IsOnce newer older = (id : FileId) → Begins id newer → GivesAll id older → ⊥

-- The calls are those before and, in front of them, those made since. Each file is read from its first byte on once, and again only if
-- what was read of it before was less than was asked for.
pub record ReadsOnce (before after : List Call) : Type 0 where
  pub since : List Call
  pub made : after ≡ since ++ before
  pub once : AllPairs IsOnce since
