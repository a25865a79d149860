-- What was asked of the scan where a project is refused: the files up to the one that has the fault, and no more.
-- * cost of a refusal [conform_job/specs/Ended.antt]: how many files are loaded before it: the project, the list, and the cube
--   if one is named, up to the one that is refused; no head is asked for before the frames of a job are judged, and then one of
--   each frame up to the refused one, which the refusal names
--     loads_of refusal cube      how many files are loaded before the refusal, of a project that names this cube
--     HasLoadedFor told path before after reached      so many were loaded, where a refusal was reached
--     HasInspectedFor told path before after reached      and no head was asked for, but those of a job's frames up to the refused one
-- * cost of a plan: one head of each source frame that the job needs, whatever it comes to behind the plan
--     IsInspected told job before after      each needed source frame was inspected once
--     AreHeadsFor told path before after reached      which heads were asked for, where this was reached
use Rattle.std.specs.Prelude.{◌≡◌, ℕ, ◌+◌, List, [], length, Option, Some, None, IfOk, Result, Ok}
use Rattle.scan_source.specs.World.{World}
use Rattle.conform_job.specs.Answers.{count_after, Grows, HeadsGrow}
use Rattle.conform_job.specs.Asks.{asks_of}
use Rattle.conform_job.specs.Ended.{HasAsked}
use Rattle.conform_job.specs.Infos.{HasEachOnce}
use Rattle.conform_job.specs.Job.{JobData}
use Rattle.conform_job.specs.declared.parts.JobFault.{JobFault}
use Rattle.conform_job.specs.declared.parts.JobParts.{JobParts}
use Rattle.project_file.specs.Projects.{Means}
use Rattle.project_file.specs.declared.Project.{Project}
use Rattle.project_file.specs.declared.fault.ProjectFault.{ProjectFault}
use Rattle.outcome.specs.declared.Outcome.{Outcome}
use Rattle.outcome.specs.declared.Outcome.TheVariants as outcome
use Rattle.outcome.specs.declared.Refused.{Refused}
use Rattle.outcome.specs.declared.Refused.TheVariants as refused
use Rattle.outcome.specs.declared.Which.TheVariants as which
use Rattle.project_job.specs.Jobs.{cube_count, FilesRead, parts_from}
use Rattle.project_job.specs.Texts.{ByFiles, HasComeTo}

-- The project is loaded first, then the list, then the cube if one is named; a job is judged behind them all. A file that stands
-- alone is no project's.
abbrev pub loads_of : Refused → Option (List ℕ) → ℕ
loads_of (refused.NoFile which.Project) cube = 1
loads_of (refused.NoFile which.List) cube = 2
loads_of (refused.NoFile which.Cube) cube = 3
loads_of (refused.NoFile which.Frame) cube = 0
loads_of (refused.Project fault) cube = 1
loads_of (refused.Reels fault) cube = 1
loads_of (refused.List fault) cube = 2
loads_of (refused.Timeline fault) cube = 2
loads_of (refused.Cube fault) cube = 3
loads_of (refused.Job fault) cube = 2 + cube_count cube
loads_of (refused.Frame fault) cube = 0

-- what holds of a refusal, where it was reached
abbrev pub IfRefused : Outcome → (Refused → Type 0) → Type 0
IfRefused reached holds = (refusal : Refused) → reached ≡ outcome.Refused refusal → holds refusal

-- the project of this file, if it is one, names this cube
abbrev pub FileNames : Option (List ℕ) → Option (List ℕ) → Type 0
FileNames None cube = Unit {0}
FileNames (Some text) cube = (read : Result Project ProjectFault) × Means text read × IfOk read (λ (project : Project). project.cube ≡ cube)

-- the files up to this refusal were loaded, of the project at the path, which names this cube
pub record WereLoaded (told : Option World) (path : List ℕ) (before after : ℕ) (refusal : Refused) : Type 0 where
  pub cube : Option (List ℕ)
  pub named : ByFiles told (λ files. FileNames (files.project path) cube)
  pub loads : after ≡ count_after (loads_of refusal cube) before

abbrev pub HasLoadedFor : Option World → List ℕ → (before after : ℕ) → Outcome → Type 0
HasLoadedFor told path before after reached = IfRefused reached (WereLoaded told path before after)

-- the project of this file has these parts
abbrev pub FileHasParts : FilesRead → Option (List ℕ) → JobParts → Type 0
FileHasParts files None parts = ⊥
FileHasParts files (Some text) parts = (project : Project) × Means text (Ok project) × (parts_from files text project ≡ Ok parts)

-- the frames of a job were judged until this fault ended it
pub record WereJudged (told : Option World) (path : List ℕ) (before after : ℕ) (fault : JobFault) : Type 0 where
  pub parts : JobParts
  pub comes : ByFiles told (λ files. FileHasParts files (files.project path) parts)
  pub heads : HasAsked parts told before after fault

-- no head is asked for before the frames of a job are judged, and then those up to the refused one
abbrev pub WereInspected : Option World → List ℕ → (before after : ℕ) → Refused → Type 0
WereInspected told path before after (refused.Job fault) = WereJudged told path before after fault
WereInspected told path before after other = after ≡ before

abbrev pub HasInspectedFor : Option World → List ℕ → (before after : ℕ) → Outcome → Type 0
HasInspectedFor told path before after reached = IfRefused reached (WereInspected told path before after)

-- Each source frame that the job needs was inspected once: the infos have one entry for each needed key.
pub record IsInspected (told : Option World) (job : JobData) (before after : ℕ) : Type 0 where
  pub needed : Grows job.parts told (asks_of job.parts.timeline) [] job.infos
  pub once : HasEachOnce job.infos
  pub heads : HeadsGrow before after 0 (length job.infos)

-- the project came to a job, and each source frame that this needs was inspected once
pub record HasInspectedAll (told : Option World) (path : List ℕ) (before after : ℕ) : Type 0 where
  pub job : JobData
  pub comes : HasComeTo told path (Ok job)
  pub inspected : IsInspected told job before after

-- the outcomes that come only once a project has come to its job
abbrev pub IsBehindPlan : Outcome → Type 0
IsBehindPlan outcome.Done = Unit {0}
IsBehindPlan (outcome.OtherJob kept wanted) = Unit {0}
IsBehindPlan (outcome.BadLedger len) = Unit {0}
IsBehindPlan (outcome.Damaged frame kept found) = Unit {0}
IsBehindPlan (outcome.Changed reel key was now) = Unit {0}
IsBehindPlan outcome.DiskFault = Unit {0}
IsBehindPlan other = ⊥

-- Of a refused project those up to the refused frame, and behind a plan those of the whole job.
pub record AreHeadsFor (told : Option World) (path : List ℕ) (before after : ℕ) (reached : Outcome) : Type 0 where
  pub refused : HasInspectedFor told path before after reached
  pub planned : IsBehindPlan reached → HasInspectedAll told path before after
