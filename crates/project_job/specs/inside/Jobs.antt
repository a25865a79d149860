-- The job of a project: its texts in the order in which they are read, and the first refusal: words of private clauses.
--     Reaches have result wanted      what a step of it gave, against what it is to give
use Rattle.std.specs.Prelude.{◌≡◌, ℕ, List, Vec, Option, Some, None, IsSomeAnd, Result, Ok, Err}
use Rattle.std.specs.Option.{option_map}
use Rattle.std.specs.declared.alloc.Global.{Global}
use Rattle.cf_base.specs.declared.event.EventList.{EventList}
use Rattle.conform_job.specs.declared.parts.JobFault.{JobFault}
use Rattle.conform_job.specs.declared.parts.JobFault.TheVariants as fault
use Rattle.project_file.specs.Projects.{Means}
use Rattle.tetra_look.specs.Look.{Lattice}
use Rattle.outcome.specs.declared.Outcome.{Outcome}
use Rattle.outcome.specs.declared.Outcome.TheVariants as outcome
use Rattle.outcome.specs.declared.Refused.{Refused}
use Rattle.project_job.specs.declared.project.ListText.{ListText}
use Rattle.project_job.specs.declared.project.LookText.{LookText}
use Rattle.project_job.specs.declared.project.ProjectText.{ProjectText}
use Rattle.outcome.specs.declared.Refused.TheVariants as refused
use Rattle.outcome.specs.declared.Which.TheVariants as which

-- A value or a refusal is the one that is wanted; a fault of the scan and want of memory may come at any place.
abbrev pub Reaches : {A B : Type 0} → (A → B) → Result A Outcome → Result B Refused → Type 0
Reaches have (Ok a) wanted = wanted ≡ Ok (have a)
Reaches have (Err (outcome.Refused refusal)) wanted = wanted ≡ Err refusal
Reaches have (Err outcome.SourceFault) wanted = Unit {0}
Reaches have (Err outcome.NoMemory) wanted = Unit {0}
Reaches have (Err other) wanted = ⊥

-- what is had of each step
abbrev pub itself : {A : Type 0} → A → A
itself a = a

abbrev pub list_and_text : ListText → List ℕ × EventList
list_and_text read = (read.text.items, read.list)

abbrev pub look_and_text : LookText → Option (List ℕ) × Option Lattice
look_and_text read = (option_map (λ (text : Vec ℕ Global). text.items) read.text, read.look)

-- what was had of the file of a project: its text and the project, or why not
abbrev pub MeansFile : Option (List ℕ) → Result ProjectText Outcome → Type 0
MeansFile file (Ok read) = (file ≡ Some read.text.items) × Means read.text.items (Ok read.project)
MeansFile file (Err (outcome.Refused (refused.NoFile absent))) = (absent ≡ which.Project) × (file ≡ None)
MeansFile file (Err (outcome.Refused (refused.Project fault))) = IsSomeAnd file (λ text. Means text (Err fault))
MeansFile file (Err outcome.SourceFault) = Unit {0}
MeansFile file (Err outcome.NoMemory) = Unit {0}
MeansFile file (Err other) = ⊥

-- what a job's refusal comes to
abbrev pub outcome_of_fault : JobFault → Outcome
outcome_of_fault fault.SourceFault = outcome.SourceFault
outcome_of_fault fault.NoMemory = outcome.NoMemory
outcome_of_fault other = outcome.Refused (refused.Job other)
