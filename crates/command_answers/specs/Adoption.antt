-- The headline of an adoption: what is taken over from an old folder is the definition's too, if the old folder is sound.
--     AdoptsJob words told tells world old job      the words adopt, for a project that comes to this job, over scans and disks that tell
--     KeepsItAdopting      the headline of these words, from this old folder
use Rattle.std.specs.Prelude.{◌≡◌, ℕ, Bool, true, List, Option, Some, Ok}
use Rattle.scan_source.specs.World.{World, file_at}
use Rattle.conform_job.specs.Job.{JobData}
use Rattle.reel_disk.specs.Disk.{Files, History, view_of}
use Rattle.frame_range.specs.Parts.{range_of}
use Rattle.frame_range.specs.declared.range.Extent.TheVariants.{Whole}
use Rattle.reel_writer.specs.Reel.{frames_of}
use Rattle.project_job.specs.Jobs.{ComesTo}
use Rattle.project_adopt.specs.Adopt.{IsOldSound}
use Rattle.command_words.specs.Commands.{Spells}
use Rattle.command_words.specs.declared.command.Command.TheVariants as commands
use Rattle.command_answers.specs.Headline.{KeepsItsPromise}

-- An accepted adoption, with unchanged scans: the project comes to this job, and each frame that the old folder acknowledges is
-- the old project's, where that comes to a job.
pub record AdoptsJob (words : List (List ℕ)) (told : Option World) (tells : Bool) (world : World) (old : Files)
    (job : JobData) : Type 0 where
  pub path : List ℕ
  pub old_path : List ℕ
  pub spells : Spells words (commands.Adopt path old_path)
  pub scans_tell : told ≡ Some world
  pub disk_tells : tells ≡ true
  pub comes : ComesTo (file_at world) path (Ok job.parts)
  pub old_sound : (old_job : JobData) → ComesTo (file_at world) old_path (Ok old_job.parts) → IsOldSound old_job world old

-- The whole sentence, of an adoption from this old folder.
abbrev pub KeepsItAdopting : List (List ℕ) → Option World → Bool → (old opening now : History) → (Ended : Type 0) → Type 0
KeepsItAdopting words told tells old opening now Ended =
    (world : World) (job : JobData) → AdoptsJob words told tells world (view_of old) job
    → KeepsItsPromise job (range_of Whole (frames_of job)) world opening now Ended
