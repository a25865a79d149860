use Rattle.std.proofs.Common.{ap, subst, ◌∙◌}
use Rattle.conform_job.specs.Asks.{shot_of_frame}
use Rattle.conform_job.specs.Job.{AreMet}
use Rattle.conform_job.specs.declared.need.Need.{Need}
use Rattle.reconform.specs.Plan.{key_path, two_by}
use Rattle.reconform.proofs.Planning.{key_of, two_plan}
use Rattle.reconform.proofs.plan.plan_at.Goals as goal

pub returns-in-Two : goal.returns-in-Two
returns-in-Two c =
    let job = c.args.job.now in
    let need = c.need-need.ensures.need in
    let old = c.path_of-in-Two.ensures ∙ ap (λ (n : Need). key_path job (key_of n.old)) need in
    let new = c.path_of-in-Two-2.ensures ∙ ap (λ (n : Need). key_path job (key_of n.new)) need in
    c.two_sides.ensures
    ∙ (λ t. two_by (old t) (new t) c.in-Two.transition c.in-Two.k c.in-Two.d)
    ∙ two_plan job c.args.i c.in-Two.old c.in-Two.new c.in-Two.transition c.in-Two.k c.in-Two.d c.in-Two.ensures.shot
    (subst (λ (n : Need). AreMet (shot_of_frame job.parts.timeline c.args.i) n) need c.need-need.ensures.met)
