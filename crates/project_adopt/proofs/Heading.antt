-- Which heads an adoption asked for.
use Rattle.std.proofs.Common.{◌≡◌, ℕ, List, Option, Result, Ok, Err, MatchResult, sym, subst}
use Rattle.scan_source.specs.World.{World}
use Rattle.conform_job.specs.Job.{JobData}
use Rattle.outcome.specs.declared.Outcome.{Outcome}
use Rattle.outcome.specs.declared.Outcome.TheVariants as outcome
use Rattle.outcome.specs.declared.Refused.{Refused}
use Rattle.project_job.specs.Asked.{HasInspectedAll, HasInspectedFor}
use Rattle.project_job.specs.Jobs.{IsOfJob}
use Rattle.reel_disk.specs.State.{FolderState}
use Rattle.project_run.specs.Calls.{IsRefusal}
use Rattle.project_adopt.specs.Adopt.{GoesOn, of_old_project}
use Rattle.project_adopt.specs.Heads.{AreHeadsOfBoth, AreOldHeads, IsBehindPlans}
use Rattle.project_adopt.specs.inside.Adopt.{Ends}
use Rattle.project_adopt.proofs.Leaving.{onward_unrefused}

-- behind both plans nothing more is asked for
pub old_behind : {A : Type 0} (r : Result A Outcome) (P : A → Type 0) (Q : Outcome → Type 0) (told : Option World) (old_path : List ℕ) (before after : ℕ) → HasInspectedAll told old_path before after
    → MatchResult r P Q → ((reached : Outcome) → Q reached → IsRefusal reached → ⊥) → Ends r (AreOldHeads told old_path before after)
old_behind (Ok a) P Q told old_path before after all is none = record { refused = λ refusal same. absurd (cc); planned = λ _. all }
old_behind (Err reached) P Q told old_path before after all is none = record {
  refused = λ refusal same. absurd (none reached is (subst IsRefusal (sym same) tt));
  planned = λ _. all;
}

same_refusal : (a b : Refused) → outcome.OldRefused a ≡ outcome.OldRefused b → outcome.Refused a ≡ outcome.Refused b
same_refusal a b same = cc

-- the old project came to no job
pub old_unplanned : (found : Outcome) (told : Option World) (old_path : List ℕ) (before after : ℕ) → IsOfJob found → HasInspectedFor told old_path before after found
    → AreOldHeads told old_path before after (of_old_project found)
old_unplanned (outcome.Refused refused) told old_path before after kind asked = record { refused = λ refusal same. asked refusal (same_refusal refused refusal same); planned = λ no. absurd no }
old_unplanned outcome.SourceFault told old_path before after kind asked = record { refused = λ refusal same. absurd (cc); planned = λ no. absurd no }
old_unplanned outcome.NoMemory told old_path before after kind asked = record { refused = λ refusal same. absurd (cc); planned = λ no. absurd no }
old_unplanned outcome.Done told old_path before after kind asked = absurd kind
old_unplanned outcome.Usage told old_path before after kind asked = absurd kind
old_unplanned (outcome.OtherJob kept wanted) told old_path before after kind asked = absurd kind
old_unplanned (outcome.BadLedger len) told old_path before after kind asked = absurd kind
old_unplanned (outcome.OldRefused refused) told old_path before after kind asked = absurd kind
old_unplanned (outcome.OldOtherJob kept wanted) told old_path before after kind asked = absurd kind
old_unplanned (outcome.OldBadLedger len) told old_path before after kind asked = absurd kind
old_unplanned (outcome.Damaged frame kept found) told old_path before after kind asked = absurd kind
old_unplanned (outcome.Changed reel key was now) told old_path before after kind asked = absurd kind
old_unplanned outcome.DiskFault told old_path before after kind asked = absurd kind
old_unplanned (outcome.SinkFault instead) told old_path before after kind asked = absurd kind

-- what stands in the place of a job comes behind no plan
unbehind : (reached : Outcome) → IsOfJob reached → IsBehindPlans reached → ⊥
unbehind outcome.Done kind behind = kind
unbehind outcome.Usage kind behind = kind
unbehind (outcome.SinkFault instead) kind behind = kind
unbehind (outcome.Refused refusal) kind behind = behind
unbehind (outcome.OtherJob kept wanted) kind behind = kind
unbehind (outcome.BadLedger len) kind behind = kind
unbehind (outcome.OldRefused refusal) kind behind = kind
unbehind (outcome.OldOtherJob kept wanted) kind behind = kind
unbehind (outcome.OldBadLedger len) kind behind = kind
unbehind (outcome.Damaged frame kept found) kind behind = kind
unbehind (outcome.Changed reel key was now) kind behind = kind
unbehind outcome.SourceFault kind behind = behind
unbehind outcome.DiskFault kind behind = kind
unbehind outcome.NoMemory kind behind = behind

-- the new project came to no job
pub new_unplanned : (reached : Outcome) (told : Option World) (path old_path : List ℕ) (before after : ℕ) → IsOfJob reached → HasInspectedFor told path before after reached
    → AreHeadsOfBoth told path old_path before after reached
new_unplanned reached told path old_path before after kind asked = record {
  refused = asked;
  old_refused = λ refusal is. absurd (subst IsOfJob is kind);
  planned = λ behind. absurd (unbehind reached kind behind);
}

-- the new project came to its job, and then the old one was planned
pub heads_onward : {A : Type 0} (r : Result A Outcome) (P : A → Type 0) (job : JobData) (told here : Option World) (path old_path : List ℕ) (old old_after disk disk_after : FolderState)
    (loads loads_after before between after : ℕ) (output : Outcome → List ℕ) → here ≡ told → HasInspectedAll told path before between
    → MatchResult r P (λ reached. GoesOn job old_path here loads loads_after old old_after disk disk_after reached (output reached))
    → Ends r (AreOldHeads here old_path between after)
    → Ends r (AreHeadsOfBoth told path old_path before after)
heads_onward (Ok a) P job told here path old_path old old_after disk disk_after loads loads_after before between after output same all went asked =
    let heads = subst (λ t. AreOldHeads t old_path between after outcome.Done) same asked in
    record {
      refused = λ refusal is. absurd (cc);
      old_refused = λ refusal is. (between, all, heads.refused refusal is);
      planned = λ behind. (between, all, heads.planned behind);
    }
heads_onward (Err reached) P job told here path old_path old old_after disk disk_after loads loads_after before between after output same all went asked =
    let heads = subst (λ t. AreOldHeads t old_path between after reached) same asked in
    record {
      refused = λ refusal is. absurd (onward_unrefused job here old_path old old_after disk disk_after loads loads_after reached (output reached) refusal went is);
      old_refused = λ refusal is. (between, all, heads.refused refusal is);
      planned = λ behind. (between, all, heads.planned behind);
    }
