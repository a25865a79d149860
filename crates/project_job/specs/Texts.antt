-- What a project comes to by its texts, whether the scan tells its files or not. All of it is this project's own rule.
-- * texts of a project [Jobs]: the files as they were at the load of the project, of its list and of its cube: those that the
--   scan tells, else some; the job is that of these texts, and so is each refusal but those of source frames
--     ByFiles told IsRight      something is right by the files as they were at each load
--     TextsComeTo files path answer      the texts come to the parts of a job, or to their first refusal
--     IsByTexts files path result      what was had of a project is what its texts come to
--     HasComeTo world path result      what was had of a project: by the files that are told, and by its texts
use Rattle.std.specs.Prelude.{◌≡◌, ℕ, List, Option, IfSome, Result, Ok, Err}
use Rattle.cf_base.specs.Steps.{◌>>=◌}
use Rattle.scan_source.specs.World.{World, file_at}
use Rattle.conform_job.specs.Job.{JobData}
use Rattle.conform_job.specs.Refusals.{told_refusal}
use Rattle.conform_job.specs.declared.parts.JobFault.TheVariants as fault
use Rattle.conform_job.specs.declared.parts.JobParts.{JobParts}
use Rattle.project_file.specs.declared.Project.{Project}
use Rattle.project_file.specs.declared.fault.ProjectFault.{ProjectFault}
use Rattle.outcome.specs.declared.Outcome.{Outcome}
use Rattle.outcome.specs.declared.Outcome.TheVariants as outcome
use Rattle.outcome.specs.declared.Refused.{Refused}
use Rattle.outcome.specs.declared.Refused.TheVariants as refused
use Rattle.project_job.specs.Jobs.{FileComesBy, FilesRead, HasPlanned, parts_from, unchanged, unless_job, unless_refused}

-- The files as they were at each load: where the scan tells its files these, which don't change, else some.
abbrev pub ByFiles : Option World → (FilesRead → Type 0) → Type 0
ByFiles told IsRight = (files : FilesRead) × IfSome told (λ world. files ≡ unchanged (file_at world)) × IsRight files

-- what needs no source frame: 0.1, 2 to 14, then 15.5 and 15.1
abbrev pub job_of_texts : FilesRead → List ℕ → Result Project ProjectFault → Result JobParts Refused
job_of_texts files text read = do
  project ← unless_refused refused.Project read
  parts ← parts_from files text project
  unless_job parts (told_refusal parts)

abbrev pub TextsComeTo : FilesRead → List ℕ → Result JobParts Refused → Type 0
TextsComeTo files path answer = FileComesBy (job_of_texts files) (files.project path) answer

abbrev pub TextsHaveJob : FilesRead → List ℕ → Type 0
TextsHaveJob files path = (parts : JobParts) × TextsComeTo files path (Ok parts)

-- A refusal is that of the texts; one of a source frame, 15.2 to 15.4, comes where they have a job.
abbrev pub IsTextRefusal : FilesRead → List ℕ → Refused → Type 0
IsTextRefusal files path (refused.Job (fault.MissingFrame line reel source)) = TextsHaveJob files path
IsTextRefusal files path (refused.Job (fault.BadFrame line reel source bad)) = TextsHaveJob files path
IsTextRefusal files path (refused.Job (fault.Geometry line reel source)) = TextsHaveJob files path
IsTextRefusal files path other = TextsComeTo files path (Err other)

-- What was had of a project, its job or why not, is what its texts come to.
abbrev pub IsByTexts : FilesRead → List ℕ → Result JobData Outcome → Type 0
IsByTexts files path (Ok job) = TextsComeTo files path (Ok job.parts)
IsByTexts files path (Err (outcome.Refused refusal)) = IsTextRefusal files path refusal
IsByTexts files path (Err outcome.SourceFault) = Unit {0}
IsByTexts files path (Err outcome.NoMemory) = Unit {0}
IsByTexts files path (Err other) = ⊥

-- The same, and where the scan tells its files it is what the project at the path comes to there.
pub record HasComeTo (world : Option World) (path : List ℕ) (result : Result JobData Outcome) : Type 0 where
  pub told : IfSome world (λ files. HasPlanned (file_at files) path result)
  pub read : ByFiles world (λ files. IsByTexts files path result)
