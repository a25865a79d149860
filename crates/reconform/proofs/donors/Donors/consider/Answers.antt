use Rattle.std.proofs.Common.{sym, ap, ◌∙◌, cond}
use Rattle.std.specs.Prelude.{Some, None}
use Rattle.std.specs.Option.{option_or}
use Rattle.std.specs.BTreeMap.{is_at}
use Rattle.reconform.specs.declared.plan.FramePlan.{FramePlan}
use Rattle.reconform.specs.inside.Donor.{donor_in, plan_cmp}
use Rattle.reconform.proofs.Donating.{least_added, least_still}
use Rattle.reconform.proofs.donors.Donors.consider.Goals as goal

pub returns-then-is_acked : goal.returns-then-is_acked
returns-then-is_acked c = record {
  least =
      least_added c.args.job.now c.args.view.now.gates c.args.j (sym c.is_acked.ensures ∙ c.if-is_acked.true) c.args.self.now.by_plan c.add.new.self.by_plan
      (λ q. c.in_ok-add.ensures.first q ∙ ap (λ (p : FramePlan). option_or (donor_in c.args.self.now.by_plan q) (cond (is_at (plan_cmp p) q) (Some c.args.j) None)) c.plan_at.ensures) c.requires.least;
}

pub returns : goal.returns
returns c = record { least = least_still c.args.job.now c.args.view.now.gates c.args.j (sym c.is_acked.ensures ∙ c.if-is_acked.false) c.args.self.now.by_plan c.requires.least }
