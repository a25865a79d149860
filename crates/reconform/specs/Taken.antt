-- Which files an adoption reads and which bytes it writes, by its calls. It holds over every disk, and all of it is this project's
-- own rule.
-- * taken over: a frame's file is its own header before the pixels of its donor's file, as a read of the old folder gave it; what an
--   adoption asks for behind the look at the old ledger, which is donors' files in the order of the frames, once for each frame; and
--   what it writes, which is such files and the ledger's
--     WasDonorRead      a frame's donor, and its file as a read gave it, of a frame's length and of the SHA-256 that is kept
--     IsTakenOver      a file that is written: a frame's header before the pixels of its donor's file
--     OnlyMakes Made before after      each file that the calls since then write is the ledger's or as `Made` says
--     AsksForDonors low high before after      the calls since then ask for donors' files, in order and once for each frame
--     TakesOnly      what frames that are taken over read in the old folder and write in the new one
--     TakesOver      what an adoption does: the ledger's calls of a look before them
use Rattle.std.specs.Prelude.{◌≡◌, ◌⊎◌, ℕ, ◌<◌, ◌≤◌, Bool, List, [], ◌∷◌, ◌++◌, length, drop, All, Result, Ok, Err}
use Rattle.cf_base.specs.declared.file.FileId.{FileId}
use Rattle.cf_base.specs.declared.limits.TheConstants.{HEADER}
use Rattle.dpx_header.specs.Writing.{header_of}
use Rattle.conform_job.specs.Job.{JobData, file_of}
use Rattle.frame_render.specs.Frame.{frame_size, out_head}
use Rattle.reel_disk.specs.Call.{Call, Patched, Wrote, writes_in}
use Rattle.reel_disk.specs.declared.disk.DiskFault.{DiskFault}
use Rattle.resume_ledger.specs.Calls.{Looks}
use Rattle.resume_ledger.specs.Ledger.{IsWrittenLedgerFile}
use Rattle.resume_ledger.specs.Look.{ViewState, hash_at}
use Rattle.resume_ledger.specs.declared.attach.OpenFault.{OpenFault}
use Rattle.reel_writer.specs.Reads.{AsksWhole, WasReadWhole}
use Rattle.reel_writer.specs.Reel.{frames_of}
use Rattle.reconform.specs.Donor.{IsDonor, IsOfHash}

-- The bytes are what a read gave of the file of the frame's donor. They are as many as a frame's file has and, where the old ledger
-- keeps a SHA-256 of the donor, they have it.
pub record WasDonorRead (new old : JobData) (view : ViewState) (calls : List Call) (frame : ℕ) (file : List ℕ) : Type 0 where
  pub donor : ℕ
  pub is : IsDonor new old view.gates frame donor
  pub read : WasReadWhole (file_of old donor) file calls
  pub size : length file ≡ frame_size new
  pub hash : IsOfHash (hash_at view donor) file

-- The file of a frame that is taken over: the frame's own header before the pixels of its donor's file.
pub record IsTakenOver (new old : JobData) (view : ViewState) (calls : List Call) (id : FileId) (bytes : List ℕ) : Type 0 where
  pub frame : ℕ
  pub within : frame < frames_of new
  pub named : id ≡ file_of new frame
  pub file : List ℕ
  pub read : WasDonorRead new old view calls frame file
  pub made : bytes ≡ header_of (out_head new frame) ++ drop HEADER file

-- a call that writes no file, or the ledger's, or another as a whole with such bytes
abbrev pub IsMaking : (Made : FileId → List ℕ → Type 0) → Call → Type 0
IsMaking Made (Wrote id bytes did) = IsWrittenLedgerFile id ⊎ Made id bytes
IsMaking Made (Patched id start bytes did) = IsWrittenLedgerFile id
IsMaking Made call = Unit {0}

-- The writes and the syncs are those before and, in front of them, those made since, each of which is such a call.
pub record OnlyMakes (Made : FileId → List ℕ → Type 0) (before after : List Call) : Type 0 where
  pub since : List Call
  pub made : writes_in after ≡ since ++ writes_in before
  pub each : All (IsMaking Made) since

-- what is asked to read the file of a frame's donor whole, whatever that gives
abbrev pub AsksDonor : JobData → JobData → ViewState → ℕ → (before after : List Call) → Type 0
AsksDonor new old view i before after = (donor : ℕ) × (result : Result Bool DiskFault)
    × IsDonor new old view.gates i donor × AsksWhole (file_of old donor) (frame_size new) result before after

-- The donors of these frames were asked for, one behind another. The newest comes first, and each frame is above those before it.
abbrev pub AsksInTurn : JobData → JobData → ViewState → (low high : ℕ) → (frames : List ℕ) → (before after : List Call) → Type 0
AsksInTurn new old view low high [] before after = after ≡ before
AsksInTurn new old view low high (i ∷ older) before after = (low ≤ i) × (i < high)
    × (mid : List Call) × AsksInTurn new old view low i older before mid × AsksDonor new old view i mid after

-- All calls since then ask for donors' files, in the order of the frames from one to another, and once for each frame.
pub record AsksForDonors (new old : JobData) (view : ViewState) (low high : ℕ) (before after : List Call) : Type 0 where
  pub frames : List ℕ
  pub asked : AsksInTurn new old view low high frames before after

-- What frames that are taken over do to the two folders, the old one first. Of the old one donors' files are asked for, and nothing
-- else. Each file that they write in the new one is the ledger's, or that of a frame that is taken over.
pub record TakesOnly (new old : JobData) (view : ViewState) (old_before old_after before after : List Call) : Type 0 where
  pub asks : AsksForDonors new old view 0 (frames_of new) old_before old_after
  pub made : OnlyMakes (IsTakenOver new old view old_after) before after

-- What an adoption does. Where the look at the old ledger gives no view, it makes no call on the new folder. Else frames are taken over
-- by that view.
abbrev pub TakesOver : JobData → JobData → (old_before old_after before after : List Call) → Type 0
TakesOver new old old_before old_after before after =
    ((fault : OpenFault) × Looks old.parts.digest (frames_of old) (Err fault) old_before old_after × (after ≡ before))
    ⊎ ((view : ViewState) × (looked : List Call) × Looks old.parts.digest (frames_of old) (Ok view) old_before looked
    × TakesOnly new old view looked old_after before after)
