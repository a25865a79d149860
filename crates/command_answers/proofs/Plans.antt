-- From a job that was planned to the reply of its command.
use Rattle.std.proofs.Common.{List, [], length, ℕ, IfSome}
use Rattle.std.specs.Prelude.{Ok, Err}
use Rattle.scan_source.specs.State.{ScanState}
use Rattle.conform_job.specs.Answers.{Grows, HeadsGrow}
use Rattle.conform_job.specs.Asks.{asks_of}
use Rattle.conform_job.specs.Infos.{HasEachOnce}
use Rattle.conform_job.specs.Job.{JobData}
use Rattle.conform_job.specs.declared.parts.JobParts.{JobParts}
use Rattle.scan_source.specs.World.{file_at}
use Rattle.project_job.specs.Jobs.{HasPlanned, IsOfJob}
use Rattle.project_job.specs.Texts.{ByFiles, IsByTexts}
use Rattle.command_answers.specs.ByJob.{IsJobReply}
use Rattle.command_answers.specs.Reply.{IsKindOf}
use Rattle.outcome.specs.declared.Outcome.{Outcome}
use Rattle.outcome.specs.declared.Outcome.TheVariants as outcomes
use Rattle.outcome.specs.declared.Outcome.TheVariants.{Done, Usage, Refused, SourceFault, SinkFault, NoMemory}
use Rattle.command_words.specs.declared.command.Command.{Command}

module _ (IsForm : JobParts → List ℕ → Type 0) (path output : List ℕ) (before after : ScanState) where
  pub job_done : (job : JobData) → IfSome before.world (λ world. HasPlanned (file_at world) path (Ok job)) → ByFiles before.world (λ files. IsByTexts files path (Ok job)) → IsForm job.parts output
      → Grows job.parts before.world (asks_of job.parts.timeline) [] job.infos → HasEachOnce job.infos → HeadsGrow before.heads after.heads 0 (length job.infos)
      → IsJobReply IsForm path Done output before after
  job_done job told read form needed once heads = record {
    job = job;
    comes = record { told = told; read = read };
    form = form;
    inspected = record { needed = needed; once = once; heads = heads };
  }

  pub job_refused : (outcome : Outcome) → IfSome before.world (λ world. HasPlanned (file_at world) path (Err outcome)) → ByFiles before.world (λ files. IsByTexts files path (Err outcome))
      → IsOfJob outcome → IsJobReply IsForm path outcome output before after
  job_refused (Refused refusal) told read kind = record { told = told; read = read }
  job_refused SourceFault told read kind = record { told = told; read = read }
  job_refused NoMemory told read kind = record { told = told; read = read }
  job_refused Done told read kind = absurd kind
  job_refused Usage told read kind = absurd kind
  job_refused (outcomes.OtherJob kept wanted) told read kind = absurd kind
  job_refused (outcomes.BadLedger len) told read kind = absurd kind
  job_refused (outcomes.OldRefused refusal) told read kind = absurd kind
  job_refused (outcomes.OldOtherJob kept wanted) told read kind = absurd kind
  job_refused (outcomes.OldBadLedger len) told read kind = absurd kind
  job_refused (outcomes.Damaged frame kept found) told read kind = absurd kind
  job_refused (outcomes.Changed reel key was now) told read kind = absurd kind
  job_refused outcomes.DiskFault told read kind = absurd kind
  job_refused (SinkFault instead) told read kind = absurd kind

-- the outcomes that a job comes to are its command's own
pub replied_job : (command : Command) (outcome : Outcome) → IsOfJob outcome → IsKindOf command outcome
replied_job command (Refused refusal) kind = tt
replied_job command SourceFault kind = tt
replied_job command NoMemory kind = tt
replied_job command Done kind = absurd kind
replied_job command Usage kind = absurd kind
replied_job command (outcomes.OtherJob kept wanted) kind = absurd kind
replied_job command (outcomes.BadLedger len) kind = absurd kind
replied_job command (outcomes.OldRefused refusal) kind = absurd kind
replied_job command (outcomes.OldOtherJob kept wanted) kind = absurd kind
replied_job command (outcomes.OldBadLedger len) kind = absurd kind
replied_job command (outcomes.Damaged frame kept found) kind = absurd kind
replied_job command (outcomes.Changed reel key was now) kind = absurd kind
replied_job command outcomes.DiskFault kind = absurd kind
replied_job command (SinkFault instead) kind = absurd kind
