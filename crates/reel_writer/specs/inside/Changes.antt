-- Which files a run of a job may change in its folder: words of private clauses.
--     IsUnfinishedFile      which it writes once the folder is open
use Rattle.std.specs.Prelude.{◌≡◌, ◌⊎◌, ℕ, ◌<◌, Bool, false, List, slice_index_or}
use Rattle.cf_base.specs.declared.file.FileId.{FileId}
use Rattle.cf_base.specs.declared.file.FileId.TheVariants.{Body2}
use Rattle.conform_job.specs.Job.{JobData, file_of}
use Rattle.reel_writer.specs.Reel.{frames_of}

-- what a run writes once the folder is open: the ledger's body, and the files of frames whose gate
-- is closed
abbrev pub IsUnfinishedFile : JobData → List Bool → FileId → Type 0
IsUnfinishedFile job gates q = (q ≡ Body2)
    ⊎ ((i : ℕ) × (i < frames_of job) × (slice_index_or gates i false ≡ false) × (q ≡ file_of job i))
