-- What holds of the definition of a project's job by itself.
--     OneAnswer, OneJob      a project comes to one answer
use Rattle.std.specs.Prelude.{◌≡◌, ℕ, List, Result, Ok, Err}
use Rattle.conform_job.specs.Refusals.{Files}
use Rattle.conform_job.specs.declared.parts.JobParts.{JobParts}
use Rattle.outcome.specs.declared.Refused.{Refused}
use Rattle.project_job.specs.Jobs.{ComesTo}

-- A project comes to one answer: to one job, or to one first refusal.
abbrev pub OneAnswer : Type 0
OneAnswer = (files : Files) (path : List ℕ) (a b : Result JobParts Refused) → ComesTo files path a → ComesTo files path b → a ≡ b

-- So the job that it comes to is the only one, and a project with a job has no refusal.
pub record OneJob : Type 0 where
  pub one : (files : Files) (path : List ℕ) (a b : JobParts) → ComesTo files path (Ok a) → ComesTo files path (Ok b) → a ≡ b
  pub apart : (files : Files) (path : List ℕ) (parts : JobParts) (refusal : Refused) → ComesTo files path (Ok parts)
      → ComesTo files path (Err refusal) → ⊥
