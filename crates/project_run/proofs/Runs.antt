-- From a run of a job to its reply.
use Rattle.std.proofs.Common.{◌≡◌, ℕ, ◌+◌, List, Option, Some, None, Ok, Err, IfSome, MatchResult, Result, refl, subst, inl, inr}
use Rattle.std.specs.Prelude.{Bool, ◌⊎◌}
use Rattle.scan_source.specs.World.{World, file_at}
use Rattle.frame_share.specs.declared.step.ShareStep.{ShareStep}
use Rattle.conform_job.specs.Answers.{count_after}
use Rattle.conform_job.specs.Job.{JobData}
use Rattle.conform_job.specs.Names.{Tells}
use Rattle.reel_disk.specs.Disk.{History}
use Rattle.run_alone.specs.Ends.{IsEnd}
use Rattle.run_alone.specs.Run.{WasOpened, WasUnopened, IsWhyUnopened}
use Rattle.run_alone.specs.declared.report.Report.{Report}
use Rattle.frame_fetch.specs.declared.run_end.RunEnd.{RunEnd}
use Rattle.frame_fetch.specs.declared.run_end.RunEnd.TheVariants as ends
use Rattle.project_job.specs.Asked.{HasLoadedFor}
use Rattle.project_job.specs.Jobs.{AreLoaded, HasPlanned, IsOfJob, cube_count}
use Rattle.project_job.specs.Texts.{ByFiles, IsByTexts}
use Rattle.reel_writer.specs.Reel.{frames_of}
use Rattle.frame_range.specs.Parts.{range_of}
use Rattle.frame_range.specs.declared.range.Extent.{Extent}
use Rattle.frame_range.specs.declared.range.FrameRange.{FrameRange}
use Rattle.reel_disk.specs.State.{FolderState}
use Rattle.project_run.specs.Run.{IsKnown, IsOfRun, IsJobRun, IsRunReply, IsUnplanned}
use Rattle.project_run.specs.Look.{IsLookReply, IsOfLook}
use Rattle.project_run.specs.Verify.{IsOfVerify}
use Rattle.outcome.specs.declared.Outcome.{Outcome}
use Rattle.outcome.specs.declared.Outcome.TheVariants as outcomes

-- what follows in each case of a result
pub match_each : {A B : Type 0} (r : Result A B) (P P' : A → Type 0) (Q Q' : B → Type 0) → MatchResult r P Q → ((a : A) → P a → P' a) → ((b : B) → Q b → Q' b) → MatchResult r P' Q'
match_each (Ok a) P P' Q Q' is first second = first a is
match_each (Err b) P P' Q Q' is first second = second b is

-- the scan tells what it tells
pub tells_itself : (told : Option World) → Tells told told
tells_itself None = tt
tells_itself (Some world) = refl

-- a run that ended by a change found one of a file that the job has
opened_end : (job : JobData) (told : Option World) (how : RunEnd) → IsEnd job told how → IsKnown job how
opened_end job told ends.Done is = tt
opened_end job told (ends.OtherJob kept wanted) is = tt
opened_end job told (ends.BadLedger len) is = tt
opened_end job told (ends.Changed key was now) is = is.known
opened_end job told ends.SourceFault is = tt
opened_end job told ends.DiskFault is = tt
opened_end job told ends.NoMemory is = tt

refused_end : (job : JobData) (tells : Bool) (old new : History) (how : RunEnd) → IsWhyUnopened job tells old new how → IsKnown job how
refused_end job tells old new ends.Done is = tt
refused_end job tells old new (ends.OtherJob kept wanted) is = tt
refused_end job tells old new (ends.BadLedger len) is = tt
refused_end job tells old new (ends.Changed key was now) is = absurd is
refused_end job tells old new ends.SourceFault is = tt
refused_end job tells old new ends.DiskFault is = tt
refused_end job tells old new ends.NoMemory is = tt

pub is_known : {low high capacity : ℕ} {log : List ShareStep} (job : JobData) (told : Option World) (tells : Bool) (old new : History) (how : RunEnd) (report : Report)
    → WasOpened job low high told capacity tells old new how report log ⊎ WasUnopened job tells old new how report log → IsKnown job how
is_known job told tells old new how report (inl opened) = opened_end job told how opened.is_end
is_known job told tells old new how report (inr refused) = refused_end job tells old new how refused.why

-- what a job may come to in place of its parts, a run may come to
pub of_job : (outcome : Outcome) → IsOfJob outcome → IsOfRun outcome
of_job outcomes.Done kind = absurd kind
of_job outcomes.Usage kind = absurd kind
of_job (outcomes.SinkFault instead) kind = absurd kind
of_job (outcomes.Refused refusal) kind = tt
of_job (outcomes.OtherJob kept wanted) kind = absurd kind
of_job (outcomes.BadLedger len) kind = absurd kind
of_job (outcomes.OldRefused refusal) kind = absurd kind
of_job (outcomes.OldOtherJob kept wanted) kind = absurd kind
of_job (outcomes.OldBadLedger len) kind = absurd kind
of_job (outcomes.Damaged frame kept found) kind = absurd kind
of_job (outcomes.Changed reel key was now) kind = absurd kind
of_job outcomes.SourceFault kind = tt
of_job outcomes.DiskFault kind = absurd kind
of_job outcomes.NoMemory kind = tt

-- the same of a look at the folder
pub job_looks : (outcome : Outcome) → IsOfJob outcome → IsOfLook outcome
job_looks outcomes.Done kind = absurd kind
job_looks outcomes.Usage kind = absurd kind
job_looks (outcomes.SinkFault instead) kind = absurd kind
job_looks (outcomes.Refused refusal) kind = tt
job_looks (outcomes.OtherJob kept wanted) kind = absurd kind
job_looks (outcomes.BadLedger len) kind = absurd kind
job_looks (outcomes.OldRefused refusal) kind = absurd kind
job_looks (outcomes.OldOtherJob kept wanted) kind = absurd kind
job_looks (outcomes.OldBadLedger len) kind = absurd kind
job_looks (outcomes.Damaged frame kept found) kind = absurd kind
job_looks (outcomes.Changed reel key was now) kind = absurd kind
job_looks outcomes.SourceFault kind = tt
job_looks outcomes.DiskFault kind = absurd kind
job_looks outcomes.NoMemory kind = tt

-- what a look may come to, a check of the files may come to
look_verifies : (outcome : Outcome) → IsOfLook outcome → IsOfVerify outcome
look_verifies (outcomes.Damaged frame kept found) kind = tt
look_verifies other kind = kind

pub job_verifies : (outcome : Outcome) → IsOfJob outcome → IsOfVerify outcome
job_verifies outcome kind = look_verifies outcome (job_looks outcome kind)

pub run_in : {share : ℕ} (job : JobData) (extent : Extent) (range : FrameRange) (here told : Option World) (path : List ℕ) (disk disk_after : FolderState) (loads between loads_after : ℕ) (reached : Outcome) (output : List ℕ) → range ≡ range_of extent (frames_of job) → here ≡ told
    → IfSome told (λ world. HasPlanned (file_at world) path (Ok job)) → ByFiles told (λ files. IsByTexts files path (Ok job)) → between ≡ count_after (2 + cube_count job.parts.project.cube) loads
    → IsJobRun job extent range share here between loads_after disk disk_after reached output → IsRunReply path extent share told loads loads_after disk disk_after reached output
run_in {share = share} job extent range here told path disk disk_after loads between loads_after reached output all same comes read texts ran = inl (record {
  job = job;
  comes = record { told = comes; read = read };
  planned = between;
  texts = texts;
  ran = subst (λ (r : FrameRange). IsJobRun job extent r share told between loads_after disk disk_after reached output) all
      (subst (λ told. IsJobRun job extent range share told between loads_after disk disk_after reached output) same ran);
})

pub looked_in : (Looked : JobData → Type 0) (job : JobData) (told : Option World) (path : List ℕ) (disk disk_after : FolderState) (loads loads_after : ℕ) (reached : Outcome)
    → IfSome told (λ world. HasPlanned (file_at world) path (Ok job)) → ByFiles told (λ files. IsByTexts files path (Ok job)) → loads_after ≡ count_after (2 + cube_count job.parts.project.cube) loads
    → Looked job → IsLookReply told path disk disk_after loads loads_after reached Looked
looked_in Looked job told path disk disk_after loads loads_after reached comes read texts looked = inl (record {
  job = job;
  comes = record { told = comes; read = read };
  texts = texts;
  looked = looked;
})

-- no job was planned, and the folder is as it was
pub unplanned : (told : Option World) (path : List ℕ) (disk : FolderState) (loads loads_after : ℕ) (reached : Outcome) → IfSome told (λ world. HasPlanned (file_at world) path (Err reached))
    → ByFiles told (λ files. IsByTexts files path (Err reached)) → IsOfJob reached → AreLoaded 1 3 loads loads_after → HasLoadedFor told path loads loads_after reached → IsUnplanned told path disk disk loads loads_after reached
unplanned told path disk loads loads_after reached why read kind texts refused = record { why = record { told = why; read = read }; kind = kind; untouched = refl; texts = texts; refused = refused }
