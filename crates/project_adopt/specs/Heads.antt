-- Which heads of source frames an adoption asks for. All of it is this project's own rule.
-- * cost of an adoption's plans: one head of each source frame that either job needs, those of the new job first; of a refused
--   project those up to the refused frame
--     AreHeadsOfBoth told path old_path before after reached      which heads were asked for, where this was reached
--     LeavesScanOfBoth path old_path result before after      what an adoption leaves of the scan
use Rattle.std.specs.Prelude.{◌≡◌, ℕ, List, Option, Result, Err, MatchResult, Vec}
use Rattle.std.specs.declared.alloc.Global.{Global}
use Rattle.scan_source.specs.State.{LeavesScan, ScanState}
use Rattle.scan_source.specs.World.{World}
use Rattle.outcome.specs.declared.Outcome.{Outcome}
use Rattle.outcome.specs.declared.Outcome.TheVariants as outcome
use Rattle.outcome.specs.declared.Refused.{Refused}
use Rattle.project_job.specs.Asked.{HasInspectedAll, HasInspectedFor, IsBehindPlan, WereInspected}

-- the outcomes that come only once both projects have come to their jobs
abbrev pub IsBehindPlans : Outcome → Type 0
IsBehindPlans (outcome.OldOtherJob kept wanted) = Unit {0}
IsBehindPlans (outcome.OldBadLedger len) = Unit {0}
IsBehindPlans other = IsBehindPlan other

-- those of the old project, once the new one has come to its job
pub record AreOldHeads (told : Option World) (old_path : List ℕ) (before after : ℕ) (reached : Outcome) : Type 0 where
  pub refused : (refusal : Refused) → reached ≡ outcome.OldRefused refusal → WereInspected told old_path before after refusal
  pub planned : IsBehindPlans reached → HasInspectedAll told old_path before after

-- The new project's come first, then the old one's.
pub record AreHeadsOfBoth (told : Option World) (path old_path : List ℕ) (before after : ℕ) (reached : Outcome) : Type 0 where
  pub refused : HasInspectedFor told path before after reached
  pub old_refused : (refusal : Refused) → reached ≡ outcome.OldRefused refusal
      → (between : ℕ) × HasInspectedAll told path before between × WereInspected told old_path between after refusal
  pub planned : IsBehindPlans reached
      → (between : ℕ) × HasInspectedAll told path before between × HasInspectedAll told old_path between after

pub record LeavesScanOfBoth (path old_path : List ℕ) (result : Result (Vec ℕ Global) Outcome) (before after : ScanState) : Type 0 where
  pub lent : LeavesScan (result ≡ Err outcome.SourceFault) before after
  pub heads : MatchResult result (λ output. AreHeadsOfBoth before.world path old_path before.heads after.heads outcome.Done)
      (AreHeadsOfBoth before.world path old_path before.heads after.heads)
