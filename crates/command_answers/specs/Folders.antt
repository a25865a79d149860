-- The folder from which a run may begin, and the one that a run leaves which was done.
--     IsBeginning job world moment      it is empty, or what stopped runs of the same job left
--     IsWholeOver job range world files      it has the definition's reel, as far as the range goes
use Rattle.std.specs.Prelude.{◌≡◌, ◌⊎◌, ℕ, [], Some, None}
use Rattle.cf_base.specs.declared.file.FileId.{FileId}
use Rattle.scan_source.specs.World.{World, file_at}
use Rattle.conform_job.specs.Job.{JobData, file_of}
use Rattle.frame_render.specs.Frame.{frame_file}
use Rattle.reel_disk.specs.Disk.{Files, Moment}
use Rattle.frame_range.specs.Parts.{IsIn}
use Rattle.frame_range.specs.declared.range.FrameRange.{FrameRange}
use Rattle.reel_disk.specs.Runs.{Surely}
use Rattle.reel_writer.specs.Reel.{HasAcked, IsSoundReel}

-- No file is there, and nothing is loose.
pub record IsEmptyFolder (moment : Moment) : Type 0 where
  pub none : (id : FileId) → moment.view id ≡ None
  pub firm : moment.loose ≡ []

-- Where a run of the job may begin: on an empty folder, or on what stopped runs of the same job left, which is sound and fit.
abbrev pub IsBeginning : JobData → World → Moment → Type 0
IsBeginning job world moment = IsEmptyFolder moment ⊎ Surely moment (IsSoundReel job world)

-- the folder behind a crash that left these files
abbrev pub left_with : Files → Moment
left_with files = record { view = files; loose = [] }

-- The definition's whole reel, as far as the range goes: each frame's file is there, byte for byte, and is acknowledged.
pub record IsWholeOver (job : JobData) (range : FrameRange) (world : World) (files : Files) : Type 0 where
  pub there : (i : ℕ) → IsIn range i → files (file_of job i) ≡ Some (frame_file job (file_at world) i)
  pub acked : (i : ℕ) → IsIn range i → HasAcked job i files
