-- The job of a project: its texts in the order in which they are read, and the first refusal. All of it is this project's own
-- rule.
-- * job of a project [Laws]: its texts in the order in which they are read, and the first refusal, as one list of steps; else
--   the parts of its job; reels that are counted in modes that the rate has. Law: a project comes to one of them alone
--     FilesRead, unchanged files      the files as they are at each load, the same ones at all of them
--     job_of files text read      what the job of a project comes to, whose text was read so: its parts, or the first refusal
--     ComesTo files path answer      what the project at a path comes to
use Rattle.std.specs.Prelude.{◌≡◌, ◌≤◌, ℕ, List, Option, Some, None, Result, Ok, Err}
use Rattle.std.specs.List.{All}
use Rattle.cf_base.specs.Steps.{◌>>=◌}
use Rattle.cf_base.specs.declared.event.EventList.{EventList}
use Rattle.conform_job.specs.Digest.{digest_of}
use Rattle.conform_job.specs.Refusals.{Files, first_refusal}
use Rattle.conform_job.specs.Answers.{count_after}
use Rattle.conform_job.specs.Job.{JobData}
use Rattle.conform_job.specs.declared.parts.JobFault.{JobFault}
use Rattle.conform_job.specs.declared.parts.JobParts.{JobParts}
use Rattle.cube_reader.specs.Text.{cube_of}
use Rattle.edl_events.specs.Lists.{list_of}
use Rattle.cf_base.specs.Timing.{CanCount, frames_in_day}
use Rattle.cf_base.specs.declared.reel.ReelEntry.{ReelEntry}
use Rattle.cf_base.specs.declared.timing.Mode.{Mode}
use Rattle.cf_base.specs.declared.timing.Rate.{Rate}
use Rattle.project_file.specs.Projects.{Means}
use Rattle.project_file.specs.declared.Project.{Project}
use Rattle.project_file.specs.declared.fault.ProjectFault.{ProjectFault}
use Rattle.record_timeline.specs.Accepted.{timeline_of}
use Rattle.source_reels.specs.Reels.{table_of}
use Rattle.tetra_look.specs.Look.{Lattice, lattice_of}
use Rattle.outcome.specs.declared.Outcome.{Outcome}
use Rattle.outcome.specs.declared.Outcome.TheVariants as outcome
use Rattle.outcome.specs.declared.Refused.{Refused}
use Rattle.outcome.specs.declared.Refused.TheVariants as refused
use Rattle.outcome.specs.declared.Which.{Which}
use Rattle.outcome.specs.declared.Which.TheVariants as which

-- the value, or the refusal that its fault is
abbrev pub unless_refused : {A F : Type 0} → (F → Refused) → Result A F → Result A Refused
unless_refused refusal (Ok a) = Ok a
unless_refused refusal (Err fault) = Err (refusal fault)

-- 0.1: the file, unless there is none
abbrev pub unless_absent : Which → Option (List ℕ) → Result (List ℕ) Refused
unless_absent absent (Some text) = Ok text
unless_absent absent None = Err (refused.NoFile absent)

-- an edit list and its text
abbrev pub list_in : Rate → Option (List ℕ) → Result (List ℕ × EventList) Refused
list_in rate file = do
  text ← unless_absent which.List file
  list ← unless_refused refused.List (list_of rate text)
  Ok (text, list)

-- the look of a cube's text
abbrev pub look_of_text : List ℕ → Result (Option Lattice) Refused
look_of_text text = do
  table ← unless_refused refused.Cube (cube_of text)
  Ok (Some (lattice_of table))

-- a look and the text of its cube
abbrev pub cube_in : Option (List ℕ) → Result (Option (List ℕ) × Option Lattice) Refused
cube_in file = do
  text ← unless_absent which.Cube file
  look ← look_of_text text
  Ok (Some text, look)

-- the same of the cube that a project names, if it names one
abbrev pub look_in : Files → Option (List ℕ) → Result (Option (List ℕ) × Option Lattice) Refused
look_in files None = Ok (None, None)
look_in files (Some path) = cube_in (files path)

-- 15.5, then 15.1 to 15.4
abbrev pub unless_job : JobParts → Option JobFault → Result JobParts Refused
unless_job parts None = Ok parts
unless_job parts (Some fault) = Err (refused.Job fault)

-- The files as they are when a project is loaded, when its list is, and when its cube is: they may change in between.
pub record FilesRead : Type 0 where
  pub project : Files
  pub list : Files
  pub cube : Files

-- the same files at each load
abbrev pub unchanged : Files → FilesRead
unchanged files = record { project = files; list = files; cube = files }

-- the parts of the job of a project with this text
abbrev pub parts_from : FilesRead → List ℕ → Project → Result JobParts Refused
parts_from files text project = do
  reels ← unless_refused refused.Reels (table_of project.reels)
  edl ← list_in project.rate (files.list project.edl)
  timeline ← unless_refused refused.Timeline (timeline_of project.rate edl.1)
  cube ← look_in files.cube project.cube
  Ok (record { digest = digest_of text edl.0 cube.0; project = project; reels = reels; timeline = timeline; look = cube.1 })

abbrev pub parts_of : Files → List ℕ → Project → Result JobParts Refused
parts_of files text project = parts_from (unchanged files) text project

abbrev pub job_of : Files → List ℕ → Result Project ProjectFault → Result JobParts Refused
job_of files text read = do
  project ← unless_refused refused.Project read
  parts ← parts_of files text project
  unless_job parts (first_refusal parts files)

-- what the project of this file comes to, if it is there, where its job is had of its text so
abbrev pub FileComesBy : (List ℕ → Result Project ProjectFault → Result JobParts Refused) → Option (List ℕ)
    → Result JobParts Refused → Type 0
FileComesBy job None answer = answer ≡ Err (refused.NoFile which.Project)
FileComesBy job (Some text) answer = (read : Result Project ProjectFault) × Means text read × (answer ≡ job text read)

abbrev pub FileComesTo : Files → Option (List ℕ) → Result JobParts Refused → Type 0
FileComesTo files file answer = FileComesBy (job_of files) file answer

abbrev pub ComesTo : Files → List ℕ → Result JobParts Refused → Type 0
ComesTo files path answer = FileComesTo files (files path) answer

-- what was had of the project of a file: its job, or why not
abbrev pub FileHasPlanned : Files → Option (List ℕ) → Result JobData Outcome → Type 0
FileHasPlanned files file (Ok job) = FileComesTo files file (Ok job.parts)
FileHasPlanned files file (Err (outcome.Refused refusal)) = FileComesTo files file (Err refusal)
FileHasPlanned files file (Err outcome.SourceFault) = Unit {0}
FileHasPlanned files file (Err outcome.NoMemory) = Unit {0}
FileHasPlanned files file (Err other) = ⊥

abbrev pub HasPlanned : Files → List ℕ → Result JobData Outcome → Type 0
HasPlanned files path result = FileHasPlanned files (files path) result

-- each reel is counted in a mode that the rate has
abbrev pub AreCounted : Rate → List ReelEntry → Type 0
AreCounted rate entries = All (λ (e : ReelEntry). (mode : Mode) × CanCount rate mode × (e.day ≡ frames_in_day rate mode)) entries

-- how many cubes are loaded
abbrev pub cube_count : Option (List ℕ) → ℕ
cube_count None = 0
cube_count (Some path) = 1

-- so many files were loaded, at least and at most
abbrev pub AreLoaded : (few many before after : ℕ) → Type 0
AreLoaded few many before after = (count : ℕ) × (few ≤ count) × (count ≤ many) × (after ≡ count_after count before)

-- the outcomes that a job may come to in place of its parts, whatever the scan tells
abbrev pub IsOfJob : Outcome → Type 0
IsOfJob (outcome.Refused refusal) = Unit {0}
IsOfJob outcome.SourceFault = Unit {0}
IsOfJob outcome.NoMemory = Unit {0}
IsOfJob other = ⊥
