-- What was asked of the scan where a project is refused: the files up to the one that has the fault, and no more: words of private clauses.
use Rattle.std.specs.Prelude.{◌≡◌, ℕ, List, Option}
use Rattle.conform_job.specs.Answers.{count_after}
use Rattle.conform_job.specs.declared.parts.JobFault.{JobFault}
use Rattle.outcome.specs.declared.Outcome.{Outcome}
use Rattle.outcome.specs.declared.Outcome.TheVariants as outcome
use Rattle.outcome.specs.declared.Refused.TheVariants as refused
use Rattle.project_job.specs.Asked.{IfRefused, loads_of}

-- a refusal is one that comes behind so many loads, whatever the project names
abbrev pub ComesBehind : ℕ → Outcome → Type 0
ComesBehind count reached = IfRefused reached (λ refusal. (cube : Option (List ℕ)) → loads_of refusal cube ≡ count)

-- the same behind the project's own load, which was made of this count
abbrev pub HasLoadedBehind : Option (List ℕ) → (before after : ℕ) → Outcome → Type 0
HasLoadedBehind cube before after reached =
    IfRefused reached (λ refusal. (first : ℕ) → before ≡ count_after 1 first → after ≡ count_after (loads_of refusal cube) first)

-- it is no refusal of a job's frames: those are judged behind the texts
abbrev pub IsOfTexts : Outcome → Type 0
IsOfTexts reached = (fault : JobFault) → reached ≡ outcome.Refused (refused.Job fault) → ⊥
