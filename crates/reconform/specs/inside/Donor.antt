-- Which frame of an old reel serves a frame of a new job: words of private clauses.
use Rattle.std.specs.Prelude.{◌≡◌, ◌≢◌, ℕ, ◌<◌, Bool, true, false, List, slice_index_or, Option, Some, None, cond}
use Rattle.std.specs.BTreeMap.{BTreeMap, get, is_at}
use Rattle.std.specs.Option.{option_or}
use Rattle.conform_job.specs.Job.{JobData}
use Rattle.std.specs.declared.cmp.Ordering.{Ordering}
use Rattle.reconform.specs.contracts.plan.FramePlanOrd.TheImpl.{cmp-value}
use Rattle.reconform.specs.declared.plan.FramePlan.{FramePlan}
use Rattle.reconform.specs.Plan.{plan_at}

-- of the frames below a count, the least that is acknowledged and has the plan, or that there is none
abbrev pub IsLeast : JobData → List Bool → ℕ → FramePlan → Option ℕ → Type 0
IsLeast old acked count plan None = (k : ℕ) → k < count → slice_index_or acked k false ≡ true → plan_at old k ≢ plan
IsLeast old acked count plan (Some j) = (j < count) × (slice_index_or acked j false ≡ true) × (plan_at old j ≡ plan)
    × ((k : ℕ) → k < j → slice_index_or acked k false ≡ true → plan_at old k ≢ plan)

-- plans in the order that is derived
abbrev pub plan_cmp : FramePlan → FramePlan → Ordering
plan_cmp = cmp-value.it

abbrev pub donor_in : BTreeMap FramePlan ℕ → FramePlan → Option ℕ
donor_in donors plan = get plan_cmp donors plan

-- the map has the least frame of each plan
abbrev pub AreLeast : JobData → List Bool → ℕ → BTreeMap FramePlan ℕ → Type 0
AreLeast old acked count donors = (plan : FramePlan) → IsLeast old acked count plan (donor_in donors plan)

-- the frame is the donor of its plan now, if there was none
abbrev pub AddsDonor : FramePlan → ℕ → (before after : BTreeMap FramePlan ℕ) → Type 0
AddsDonor plan j before after = (other : FramePlan)
    → donor_in after other ≡ option_or (donor_in before other) (cond (is_at (plan_cmp plan) other) (Some j) None)
