-- For any accepted job, unchanged scans and any number of workers, at every moment of a run each frame that the ledger, as a
-- crash then may leave it, acknowledges is byte for byte the per-pixel definition's; no acknowledgement is ever lost; and a run
-- that answers Done, begun on an empty folder or on what stopped runs of the same job left, leaves the definition's whole reel.
-- * headline [Folders, Adoption]: of a run whose job is accepted, over scans and a disk that tell, and of an adoption whose old
--   folder is sound besides: begun on an empty folder or on what stopped runs left, at every moment each frame that a crash leaves
--   acknowledged is the definition's, and what it leaves is such a beginning again; no acknowledgement is lost; once done, the
--   whole reel
--
-- `KeepsItsPromise` is that sentence, in these words:
--     Extends opening now      time went on from the opening until now
--     IsBeginning job world moment      the folder is empty, or what stopped runs of the same job left
--     LeavesOnly opening now P      whatever a crash leaves, at any moment from the opening until now, is P
--     IsSoundReel job world files      each frame that the files acknowledge is the definition's, and their ledger the job's, if any is
--     NeverForgets opening now P      what was sure to be P at one moment is so at each later one
--     HasAcked job i files      the files acknowledge record frame i
--     HasFrameFiles job files      each frame that version 1 of the ledger acknowledges has a file of a frame's length
--     Surely moment P      whatever a crash may leave at that moment is P
--     IsWholeOver job range world files      each frame of the range is the definition's, and acknowledged
-- `RunsJob` says of which runs it is, in these:
--     Spells words command      the words are this command's
--     ComesTo files path (Ok parts)      the project at the path is accepted, and its job has these parts
-- Of a run over a part the sentence's last words speak of the part's frames. A job's reel is the same whatever `job.infos` is:
-- it looks at the job's parts alone.
use Rattle.std.specs.Prelude.{◌≡◌, ◌⊎◌, ℕ, ◌<◌, ◌≤◌, Bool, true, List, Option, Some, Ok}
use Rattle.scan_source.specs.World.{World, file_at}
use Rattle.conform_job.specs.Job.{JobData, file_of}
use Rattle.frame_render.specs.Frame.{frame_file}
use Rattle.reel_disk.specs.Disk.{Files, History, moment_of, view_of}
use Rattle.frame_range.specs.Parts.{part_range, range_of}
use Rattle.frame_range.specs.declared.range.Extent.{Extent}
use Rattle.frame_range.specs.declared.range.FrameRange.{FrameRange}
use Rattle.reel_disk.specs.Runs.{Extends, LeavesOnly, Surely, NeverForgets}
use Rattle.reel_writer.specs.Reel.{frames_of, HasAcked, HasFrameFiles, IsSoundReel}
use Rattle.project_job.specs.Jobs.{ComesTo}
use Rattle.command_words.specs.Commands.{Spells}
use Rattle.command_words.specs.declared.command.Command.TheVariants as commands
use Rattle.outcome.specs.declared.Outcome.{Outcome}
use Rattle.outcome.specs.declared.Outcome.TheVariants.{Done, SinkFault}
use Rattle.command_answers.specs.Folders.{IsBeginning, IsWholeOver, left_with}

-- What a run or an adoption of the job keeps from its opening until now, wherever it is. `Ended` says that it was done.
pub record KeepsItsPromise (job : JobData) (range : FrameRange) (world : World) (opening now : History) (Ended : Type 0) : Type 0 where
  -- Time went on: none of the past changed.
  pub time : Extends opening now
  -- At every moment of the run each frame that a crash leaves acknowledged is the definition's, byte for byte.
  pub sound : IsBeginning job world (moment_of opening) → LeavesOnly opening now (IsSoundReel job world)
  -- What a crash leaves is such a beginning again.
  pub again : IsBeginning job world (moment_of opening) → LeavesOnly opening now (λ files. IsBeginning job world (left_with files))
  -- No acknowledgement is ever lost.
  pub kept : IsBeginning job world (moment_of opening) → (i : ℕ) → NeverForgets opening now (HasAcked job i)
  -- Nor is one of any other folder, but of a frame of version 1 whose file is lost or isn't as long as a frame.
  pub kept_of_any : HasFrameFiles job (view_of opening) → (i : ℕ) → NeverForgets opening now (HasAcked job i)
  -- A run that was done leaves the whole reel, as far as it was to go, and so does each crash behind it.
  pub whole : Ended → IsBeginning job world (moment_of opening) → Surely (moment_of now) (IsWholeOver job range world)

-- An accepted job, with unchanged scans: the words run a project, all of it or a part, by any number of workers, the scans tell
-- this world and the disk its folder, and the project comes to this job there.
pub record RunsJob (words : List (List ℕ)) (told : Option World) (tells : Bool) (world : World) (job : JobData)
    (extent : Extent) : Type 0 where
  pub path : List ℕ
  pub workers : ℕ
  pub share : ℕ
  pub spells : Spells words (commands.Run path extent workers share)
  pub scans_tell : told ≡ Some world
  pub disk_tells : tells ≡ true
  pub comes : ComesTo (file_at world) path (Ok job.parts)

-- The command was done, though its output may be lost: a fault of the sink keeps the status in whose place it stands.
abbrev pub HasEnded : Outcome → Type 0
HasEnded result = (result ≡ Done) ⊎ (result ≡ SinkFault 0)

-- The whole sentence: of words, the scans and the disk that they are handed, and what they come to.
abbrev pub KeepsHeadline : List (List ℕ) → Option World → Bool → (opening now : History) → (Ended : Type 0) → Type 0
KeepsHeadline words told tells opening now Ended =
    (world : World) (job : JobData) (extent : Extent) → RunsJob words told tells world job extent
    → KeepsItsPromise job (range_of extent (frames_of job)) world opening now Ended

-- Where so many folders have the parts of a job, one each, every frame of the reel is in one of them, byte for byte and
-- acknowledged.
abbrev pub PartsMakeTheReel : Type 0
PartsMakeTheReel = (job : JobData) (world : World) (parts : ℕ) (folder : ℕ → Files) → 1 ≤ parts
    → ((k : ℕ) → 1 ≤ k → k ≤ parts → IsWholeOver job (part_range k parts (frames_of job)) world (folder k))
    → (i : ℕ) → i < frames_of job → (k : ℕ) × (1 ≤ k) × (k ≤ parts)
    × (folder k (file_of job i) ≡ Some (frame_file job (file_at world) i)) × HasAcked job i (folder k)
