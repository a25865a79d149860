-- Which files a run of a job may change in its folder. All of it is this project's own rule.
-- * files of a run: which frames an opening keeps; which files a run may change, and which it writes
--     HasKept      an opening of the folder keeps the frame acknowledged
--     IsOwnFile, MayWrite      which files a run may change, and which it writes
use Rattle.std.specs.Prelude.{◌≡◌, ◌⊎◌, ℕ, ◌<◌}
use Rattle.cf_base.specs.declared.file.FileId.{FileId}
use Rattle.conform_job.specs.Job.{JobData, file_of}
use Rattle.frame_render.specs.Frame.{frame_size}
use Rattle.reel_disk.specs.Disk.{Files}
use Rattle.resume_ledger.specs.Ledger.{IsLedgerFile, IsWrittenLedgerFile}
use Rattle.resume_ledger.specs.Attach.{IsKept}
use Rattle.reel_writer.specs.Reel.{frames_of}

-- An opening of these files keeps the frame acknowledged: they acknowledge it, and where version 1 of
-- the ledger counts its file has the length of a frame's. In sound files each acknowledged frame is
-- kept.
abbrev pub HasKept : JobData → ℕ → Files → Type 0
HasKept job i files = IsKept job.parts.digest (frames_of job) (file_of job) (frame_size job) files i

-- the file of a frame that an opening of these files doesn't keep acknowledged
abbrev pub IsUnkeptFile : JobData → Files → FileId → Type 0
IsUnkeptFile job before q = (i : ℕ) × (i < frames_of job) × (HasKept job i before → ⊥)
    × (q ≡ file_of job i)

-- what a run may change: the ledger's files, and those of frames that its opening didn't keep
abbrev pub IsOwnFile : JobData → Files → FileId → Type 0
IsOwnFile job before q = IsLedgerFile q ⊎ IsUnkeptFile job before q

-- what a run writes: of the ledger's files those of version 2 alone
abbrev pub MayWrite : JobData → Files → FileId → Type 0
MayWrite job before q = IsWrittenLedgerFile q ⊎ IsUnkeptFile job before q
