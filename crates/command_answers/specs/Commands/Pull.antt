-- The command `pull PROJECT MARGIN`: it reads a project, and puts which ranges of source frames its job needs, with a margin.
use Rattle.std.specs.Prelude.{◌≡◌, ℕ, List}
use Rattle.conform_job.specs.declared.parts.JobParts.{JobParts}
use Rattle.printed_tables.specs.Pull.{pull_of}
use Rattle.pull_list.specs.Pull.{IsPullList}
use Rattle.pull_list.specs.declared.range.PullRange.{PullRange}
use Rattle.command_answers.specs.ByJob.{printed_meaning}
use Rattle.command_answers.specs.Meaning.{Meaning}

-- its pull list with a margin
abbrev pub IsPullForm : ℕ → JobParts → List ℕ → Type 0
IsPullForm margin parts output =
    (ranges : List PullRange) × IsPullList parts margin ranges × (output ≡ pull_of parts.project.rate parts.reels ranges)

abbrev pub pull_meaning : List ℕ → ℕ → Meaning
pull_meaning path margin = printed_meaning path (IsPullForm margin)
