-- The command `plan PROJECT`: it reads a project, and puts what each record frame of its job shows.
use Rattle.std.specs.Prelude.{◌≡◌, ℕ, List}
use Rattle.conform_job.specs.declared.parts.JobParts.{JobParts}
use Rattle.printed_tables.specs.Plan.{plan_of}
use Rattle.command_answers.specs.ByJob.{printed_meaning}
use Rattle.command_answers.specs.Meaning.{Meaning}

-- its plan
abbrev pub IsPlanForm : JobParts → List ℕ → Type 0
IsPlanForm parts output = output ≡ plan_of parts

abbrev pub plan_meaning : List ℕ → Meaning
plan_meaning path = printed_meaning path IsPlanForm
