-- A project comes to one answer.
use Rattle.std.proofs.Common.{◌≡◌, ◌∙◌, ap, sym, List, ℕ, Option, Some, None, Result, Ok, Err}
use Rattle.conform_job.specs.Refusals.{Files}
use Rattle.conform_job.specs.declared.parts.JobParts.{JobParts}
use Rattle.project_file.specs.Projects.{OneMeaning}
use Rattle.outcome.specs.declared.Refused.{Refused}
use Rattle.project_job.specs.Jobs.{FileComesTo, job_of}
use Rattle.project_job.specs.Laws.{OneAnswer, OneJob}

one_of_file : OneMeaning → (files : Files) (file : Option (List ℕ)) (a b : Result JobParts Refused) → FileComesTo files file a → FileComesTo files file b → a ≡ b
one_of_file meaning files None a b x y = x ∙ sym y
one_of_file meaning files (Some text) a b x y = x.2 ∙ ap (job_of files text) (meaning text x.0 y.0 x.1 y.1) ∙ sym y.2

-- by the one meaning of its text
pub one_answer : OneMeaning → OneAnswer
one_answer meaning files path a b x y = one_of_file meaning files (files path) a b x y

pub one_job : OneMeaning → OneJob
one_job meaning = record {
  one = λ files path a b x y. let same : ◌≡◌ {A = Result JobParts Refused} (Ok a) (Ok b) = one_answer meaning files path (Ok a) (Ok b) x y in cc;
  apart = λ files path parts refusal x y. let same : ◌≡◌ {A = Result JobParts Refused} (Ok parts) (Err refusal) = one_answer meaning files path (Ok parts) (Err refusal) x y in cc;
}
