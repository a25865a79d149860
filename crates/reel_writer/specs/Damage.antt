-- Damage: a frame whose file has another SHA-256 than the ledger keeps of it. All of it is this
-- project's own rule.
-- * damage: a frame whose file has another SHA-256 than its record; the first one; which files a check reads, each once, and that it
--   answers by what these reads gave
--     IsDamaged      a frame that is damaged
--     HasChecked      what a check of the reel's files finds
--     ReadsReel job view result before after      over every disk, which files the calls of a check are on, that none is read twice,
--       and that each digest which its answer goes by is that of bytes which reads of that frame's file gave
use Rattle.std.specs.Prelude.{◌≡◌, ◌≢◌, ℕ, ◌<◌, true, List, length, map, count_by, is_some, Some, IfSome, Result, Ok, Err}
use Rattle.std.specs.List.{range_with_len}
use Rattle.cf_base.specs.declared.file.FileId.{FileId}
use Rattle.scan_source.specs.World.{World}
use Rattle.conform_job.specs.Job.{JobData, file_of}
use Rattle.reel_disk.specs.Call.{Call}
use Rattle.reel_disk.specs.Disk.{Files}
use Rattle.resume_ledger.specs.Hash.{digest_of_file}
use Rattle.resume_ledger.specs.Look.{ViewState, IsViewOf, hash_at}
use Rattle.reel_writer.specs.Reads.{MakesOnly, ReadsOnce, WasHashed}
use Rattle.reel_writer.specs.Reel.{frames_of, IsSoundReel}
use Rattle.reel_writer.specs.declared.damage.CheckFault.{CheckFault}
use Rattle.reel_writer.specs.declared.damage.CheckFault.TheVariants.{Damaged, DiskFault, NoMemory}

-- Frame i has the record `kept`, and its file the digest `found`, which is another.
pub record IsDamaged (job : JobData) (view : ViewState) (files : Files) (i : ℕ)
    (kept found : List ℕ) : Type 0 where
  pub within : i < frames_of job
  pub recorded : hash_at view i ≡ Some kept
  pub found_is : found ≡ digest_of_file (files (file_of job i))
  pub differ : kept ≢ found

-- none of the first frames is damaged
abbrev pub AreIntact : JobData → ViewState → Files → ℕ → Type 0
AreIntact job view files count = (k : ℕ) → k < count → (kept found : List ℕ)
    → IsDamaged job view files k kept found → ⊥

-- Where the folder is sound, and the view is what it acknowledges, none is damaged.
abbrev pub IsIntactWhereSound : JobData → ViewState → Files → Type 0
IsIntactWhereSound job view files = (world : World)
    → IsViewOf job.parts.digest (frames_of job) files view → IsSoundReel job world files
    → AreIntact job view files (frames_of job)

-- how many frames have a record
abbrev pub record_count : ViewState → ℕ
record_count view = count_by is_some (map (hash_at view) (range_with_len 0 (length view.gates)))

-- The answer of a check: the first damaged frame, or that there is none.
abbrev pub HasChecked : JobData → ViewState → Files → Result ℕ CheckFault → Type 0
HasChecked job view files (Ok records) = AreIntact job view files (frames_of job)
HasChecked job view files (Err (Damaged frame kept found)) =
    IsDamaged job view files frame kept found × AreIntact job view files frame
HasChecked job view files (Err DiskFault) = Unit {0}
HasChecked job view files (Err NoMemory) = Unit {0}

-- What an answer says, also over a disk that does not tell.
abbrev pub IsCheckFor : JobData → ViewState → Result ℕ CheckFault → Type 0
IsCheckFor job view (Ok records) = records ≡ record_count view
IsCheckFor job view (Err (Damaged frame kept found)) =
    (frame < frames_of job) × (hash_at view frame ≡ Some kept) × (kept ≢ found)
IsCheckFor job view (Err DiskFault) = Unit {0}
IsCheckFor job view (Err NoMemory) = Unit {0}

-- a frame of the job that has a record
abbrev pub IsRecorded : JobData → ViewState → ℕ → Type 0
IsRecorded job view i = (i < frames_of job) × (is_some (hash_at view i) ≡ true)

-- the file of such a frame
abbrev pub IsRecordedFile : JobData → ViewState → FileId → Type 0
IsRecordedFile job view file = (i : ℕ) × IsRecorded job view i × (file ≡ file_of job i)

-- Each of the first so many frames that has a record has it of what reads of its file gave.
abbrev pub AreAsKept : JobData → ViewState → ℕ → List Call → Type 0
AreAsKept job view count calls = (i : ℕ) → i < count → IfSome (hash_at view i) (λ kept. WasHashed (file_of job i) kept calls)

-- what a check answers is of what it read
abbrev pub IsCheckOf : JobData → ViewState → Result ℕ CheckFault → List Call → Type 0
IsCheckOf job view (Ok records) calls = AreAsKept job view (frames_of job) calls
IsCheckOf job view (Err (Damaged frame kept found)) calls = AreAsKept job view frame calls × WasHashed (file_of job frame) found calls
IsCheckOf job view (Err DiskFault) calls = Unit {0}
IsCheckOf job view (Err NoMemory) calls = Unit {0}

-- The calls since those before are on files of frames with a record alone, they read none twice, and the answer is of what they gave.
pub record ReadsReel (job : JobData) (view : ViewState) (result : Result ℕ CheckFault) (before after : List Call) : Type 0 where
  pub on : MakesOnly (IsRecordedFile job view) before after
  pub once : ReadsOnce before after
  pub says : IsCheckOf job view result after
