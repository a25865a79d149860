use Rattle.std.proofs.Common.{inr, sym, ap, ◌∙◌}
use Rattle.conform_job.specs.Job.{JobData}
use Rattle.reconform.specs.Plan.{plan_at}
use Rattle.reconform.specs.inside.Donor.{donor_in}
use Rattle.reconform.proofs.Holding.{found_as}
use Rattle.reconform.proofs.takeover.Takeover.wanted.Goals as goal

pub returns-clause-donor : goal.returns-clause-donor
returns-clause-donor g c =
    found_as c.get.result _ (c.get.ensures ∙ ap (donor_in c.args.self.now.donors.now.by_plan) (c.plan_at.ensures ∙ ap (λ (job : JobData). plan_at job c.args.i) c.requires.new_job))

pub returns-clause-none : goal.returns-clause-none
returns-clause-none g c same =
    inr (sym (c.get.ensures ∙ ap (donor_in c.args.self.now.donors.now.by_plan) (c.plan_at.ensures ∙ ap (λ (job : JobData). plan_at job c.args.i) c.requires.new_job)) ∙ same)
