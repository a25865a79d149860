-- The map of donors, with one frame more.
use Rattle.std.proofs.Common.{◌≡◌, inl, inr, ℕ, ◌+◌, Bool, true, false, cond, List, [], get_or, refl, sym, ap, ◌∙◌, subst, arith, Option}
use Rattle.std.specs.Prelude.{Some, None, is_some}
use Rattle.std.specs.Option.{option_or}
use Rattle.std.specs.Map.{lookup}
use Rattle.std.specs.Ordering.{is_eq}
use Rattle.std.specs.BTreeMap.{BTreeMap, is_at}
use Rattle.std.proofs.lemmas.Bool.{cases_lt, false≢true}
use Rattle.conform_job.specs.Job.{JobData}
use Rattle.reconform.specs.declared.plan.FramePlan.{FramePlan}
use Rattle.reconform.specs.inside.Donor.{IsLeast, AreLeast, donor_in, plan_cmp}
use Rattle.reconform.specs.Plan.{plan_at}
use Rattle.reconform.proofs.PlanOrder.{same_plan, self_plan}

or_none : (r : Option ℕ) → option_or r None ≡ r
or_none None = refl
or_none (Some n) = refl

-- a plan that has a donor keeps it
pub kept_donor : (was : FramePlan → Option ℕ) (plan : FramePlan) (j : ℕ) → is_some (was plan) ≡ true → (q : FramePlan) → was q ≡ option_or (was q) (cond (is_at (plan_cmp plan) q) (Some j) None)
kept_donor was plan j has q = by (is_eq (plan_cmp plan q)) refl
  where
    there : (r : Option ℕ) (other : Option ℕ) → is_some r ≡ true → r ≡ option_or r other
    there None other h = absurd (false≢true h)
    there (Some n) other h = refl

    by : (b : Bool) → is_eq (plan_cmp plan q) ≡ b → was q ≡ option_or (was q) (cond b (Some j) None)
    by false at = sym (or_none (was q))
    by true at = there (was q) (Some j) (subst (λ (p : FramePlan). is_some (was p) ≡ true) (same_plan plan q at) has)

-- and one that has none gets it
pub new_donor : (was now : FramePlan → Option ℕ) (plan : FramePlan) (j : ℕ) → is_some (was plan) ≡ false → ((q : FramePlan) → now q ≡ cond (is_at (plan_cmp plan) q) (Some j) (was q))
    → (q : FramePlan) → now q ≡ option_or (was q) (cond (is_at (plan_cmp plan) q) (Some j) None)
new_donor was now plan j none step q = step q ∙ by (is_eq (plan_cmp plan q)) refl
  where
    away : (r : Option ℕ) (other : Option ℕ) → is_some r ≡ false → other ≡ option_or r other
    away None other h = refl
    away (Some n) other h = absurd (false≢true (sym h))

    by : (b : Bool) → is_eq (plan_cmp plan q) ≡ b → cond b (Some j) (was q) ≡ option_or (was q) (cond b (Some j) None)
    by false at = sym (or_none (was q))
    by true at = away (was q) (Some j) (subst (λ (p : FramePlan). is_some (was p) ≡ false) (same_plan plan q at) none)

module _ (old : JobData) (acked : List Bool) (j : ℕ) where
  -- a frame that isn't acknowledged
  still : get_or acked j false ≡ false → (q : FramePlan) (r : Option ℕ) → IsLeast old acked j q r → IsLeast old acked (j + 1) q r
  still shut q None least = λ k lt is. elim (cases_lt k j) [
    | inl before ↦ least k before is
    | inr late ↦ let here : k ≡ j = omega (arith, lt, late) in absurd (false≢true (sym shut ∙ subst (λ n. get_or acked n false ≡ true) here is))
  ]
  still shut q (Some d) least = let lt = least.0 in (omega (arith, lt), least.1, least.2, least.3)

  pub least_still : get_or acked j false ≡ false → (donors : BTreeMap FramePlan ℕ) → AreLeast old acked j donors → AreLeast old acked (j + 1) donors
  least_still shut donors least q = still shut q (donor_in donors q) (least q)

  -- and one that is
  added : get_or acked j false ≡ true → (q : FramePlan) (r : Option ℕ) (b : Bool) → is_eq (plan_cmp (plan_at old j) q) ≡ b → IsLeast old acked j q r → IsLeast old acked (j + 1) q (option_or r (cond b (Some j) None))
  added is_open q (Some d) b at least = let lt = least.0 in (omega (arith, lt), least.1, least.2, least.3)
  added is_open q None true at least = (omega arith, is_open, same_plan (plan_at old j) q at, least)
  added is_open q None false at least = λ k lt is. elim (cases_lt k j) [
    | inl before ↦ least k before is
    | inr late ↦
        let here : k ≡ j = omega (arith, lt, late) in
        λ same. false≢true (sym at ∙ ap (λ p. is_eq (plan_cmp (plan_at old j) p)) (sym same ∙ ap (plan_at old) here) ∙ self_plan (plan_at old j))
  ]

  pub least_added : get_or acked j false ≡ true → (was now : BTreeMap FramePlan ℕ)
      → ((q : FramePlan) → donor_in now q ≡ option_or (donor_in was q) (cond (is_at (plan_cmp (plan_at old j)) q) (Some j) None))
      → AreLeast old acked j was → AreLeast old acked (j + 1) now
  least_added is_open was now step least q = subst (λ r. IsLeast old acked (j + 1) q r) (sym (step q)) (added is_open q (donor_in was q) (is_eq (plan_cmp (plan_at old j) q)) refl (least q))

-- a map of nothing
pub least_first : (old : JobData) (acked : List Bool) (donors : BTreeMap FramePlan ℕ) → donors.entries ≡ [] → AreLeast old acked 0 donors
least_first old acked donors none q = subst (λ es. IsLeast old acked 0 q (lookup (is_at (plan_cmp q)) es)) (sym none) (λ k lt is. absurd (omega (arith, lt)))
