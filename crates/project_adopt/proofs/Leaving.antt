-- Where a project is refused, no frame was taken over.
use Rattle.std.proofs.Common.{◌≡◌, ℕ, List, Option, Result, Ok, Err, MatchResult, sym, subst, inl, inr}
use Rattle.scan_source.specs.World.{World}
use Rattle.conform_job.specs.Job.{JobData}
use Rattle.reconform.specs.declared.adopting.Adopted.{Adopted}
use Rattle.reconform.specs.declared.adopting.AdoptFault.{AdoptFault}
use Rattle.reconform.specs.declared.adopting.AdoptFault.TheVariants as fault
use Rattle.outcome.specs.declared.Outcome.{Outcome}
use Rattle.outcome.specs.declared.Outcome.TheVariants as outcome
use Rattle.outcome.specs.declared.Refused.{Refused}
use Rattle.project_job.specs.Jobs.{IsOfJob}
use Rattle.reel_disk.specs.State.{FolderState}
use Rattle.project_run.specs.Calls.{IsRefusal}
use Rattle.project_run.proofs.Leaving.{run_unrefused}
use Rattle.project_adopt.specs.Adopt.{GoesOn, IsAdoption, IsRest, IsUnadopted, of_old_project, outcome_of_fault}

no_fault : (why : AdoptFault) → IsRefusal (outcome_of_fault why) → ⊥
no_fault (fault.OldOtherJob kept wanted) refused = refused
no_fault (fault.OldBadLedger len) refused = refused
no_fault (fault.OtherJob kept wanted) refused = refused
no_fault (fault.BadLedger len) refused = refused
no_fault fault.DiskFault refused = refused
no_fault fault.NoMemory refused = refused

-- where frames were taken over no project was refused
pub adoption_unrefused : (job old_job : JobData) (told : Option World) (old old_after disk disk_after : FolderState) (loads loads_after : ℕ) (reached : Outcome) (output : List ℕ)
    → IsAdoption job old_job told loads loads_after old old_after disk disk_after reached output → IsRefusal reached → ⊥
adoption_unrefused job old_job told old old_after disk disk_after loads loads_after reached output went = by went.adopted went.went
  where
    by : (adopted : Result Adopted AdoptFault)
        → MatchResult adopted (λ done. IsRest job done told loads loads_after went.between disk_after reached output) (λ why. IsUnadopted why went.between disk_after loads loads_after reached)
        → IsRefusal reached → ⊥
    by (Ok done) rest refused = run_unrefused job told went.between disk_after loads loads_after reached rest.run_output rest.run refused
    by (Err why) unadopted refused = no_fault why (subst IsRefusal unadopted.reached_is refused)

-- and a refusal of the old project is no refusal of the new one
old_refused : (found : Outcome) (refusal : Refused) → IsOfJob found → of_old_project found ≡ outcome.Refused refusal → ⊥
old_refused (outcome.Refused other) refusal kind is = cc
old_refused outcome.SourceFault refusal kind is = cc
old_refused outcome.NoMemory refusal kind is = cc
old_refused outcome.Done refusal kind is = kind
old_refused outcome.Usage refusal kind is = kind
old_refused (outcome.OtherJob kept wanted) refusal kind is = kind
old_refused (outcome.BadLedger len) refusal kind is = kind
old_refused (outcome.OldRefused other) refusal kind is = kind
old_refused (outcome.OldOtherJob kept wanted) refusal kind is = kind
old_refused (outcome.OldBadLedger len) refusal kind is = kind
old_refused (outcome.Damaged frame kept found) refusal kind is = kind
old_refused (outcome.Changed reel key was now) refusal kind is = kind
old_refused outcome.DiskFault refusal kind is = kind
old_refused (outcome.SinkFault instead) refusal kind is = kind

pub onward_unrefused : (job : JobData) (told : Option World) (old_path : List ℕ) (old old_after disk disk_after : FolderState) (loads loads_after : ℕ) (reached : Outcome) (output : List ℕ) (refusal : Refused)
    → GoesOn job old_path told loads loads_after old old_after disk disk_after reached output → reached ≡ outcome.Refused refusal → ⊥
onward_unrefused job told old_path old old_after disk disk_after loads loads_after reached output refusal (inl has) is =
    adoption_unrefused job has.old_job told old old_after disk disk_after has.planned loads_after reached output has.went (subst IsRefusal (sym is) tt)
onward_unrefused job told old_path old old_after disk disk_after loads loads_after reached output refusal (inr none) is =
    old_refused none.found refusal none.unplanned.kind (subst (λ r. r ≡ outcome.Refused refusal) none.reached_is is)
