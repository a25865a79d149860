-- The old project comes to its job, and both are conformed; or it comes to none.
use Rattle.std.proofs.Common.{inr, refl, sym, subst}
use Rattle.project_run.proofs.Runs.{match_each, unplanned}
use Rattle.project_adopt.specs.Adopt.{IsOfAdopt}
use Rattle.project_adopt.specs.inside.Adopt.{IsJobOver}
use Rattle.project_adopt.proofs.Planning.{adopted_in, all_three, is_over, old_adopts}
use Rattle.project_job.specs.Asked.{HasInspectedAll}
use Rattle.project_run.proofs.Leaving.{left_by, planned_all}
use Rattle.project_adopt.specs.Heads.{AreOldHeads}
use Rattle.project_adopt.proofs.Heading.{old_behind, old_unplanned}
use Rattle.project_adopt.proofs.Leaving.{adoption_unrefused}
use Rattle.project_adopt.proofs.plans.adopt_onto.Goals as goal

pub adopt_jobs-reply-requires-clause-over : goal.adopt_jobs-reply-requires-clause-over
adopt_jobs-reply-requires-clause-over g c = subst (λ t. IsJobOver t c.args.job.now) (sym c.in-Ok.ensures.scan.told) c.requires.over

pub adopt_jobs-reply-requires-clause-old_over : goal.adopt_jobs-reply-requires-clause-old_over
adopt_jobs-reply-requires-clause-old_over g c = subst (λ t. IsJobOver t c.in-Ok.job) (sym c.in-Ok.ensures.scan.told) (is_over (g.S.Scans.state c.args.scan.now).world c.args.old_path.now c.in-Ok.job c.in-Ok.ensures.told)

pub returns-clause-folders : goal.returns-clause-folders
returns-clause-folders g c =
    let planned = c.in-Ok.ensures in
    let adopted = c.adopt_jobs-reply.ensures in
    let by = adopted_in (g.S.Scans.state c.planned.new.scan).world (g.S.Scans.state c.args.scan.now).world c.args.job.now c.in-Ok.job c.args.old_path.now _ _ _ _ (g.S.Scans.state c.args.scan.now).loads (g.S.Scans.state c.planned.new.scan).loads _ in
    match_each _ _ _ _ _ (all_three _ _ _ _ _ _ _ adopted.went adopted.promise adopted.sound)
    (λ text three. by _ _ planned.scan.told planned.told planned.read planned.loaded three.0 three.1 three.2) (λ outcome three. by _ _ planned.scan.told planned.told planned.read planned.loaded three.0 three.1 three.2)

pub returns-in-Err-clause-folders : goal.returns-in-Err-clause-folders
returns-in-Err-clause-folders g c =
    let planned = c.in-Err.ensures in
    inr (record {
      found = c.in-Err.outcome;
      reached_is = c.of_old_project.ensures;
      unplanned = unplanned _ _ _ _ _ _ planned.told planned.read planned.kind planned.loads planned.refused;
      untouched = refl;
    })

pub returns-in-Err-clause-kind : goal.returns-in-Err-clause-kind
returns-in-Err-clause-kind g c = subst IsOfAdopt (sym c.of_old_project.ensures) (old_adopts c.in-Err.outcome c.in-Err.ensures.kind)

-- the heads of the old project behind those of the new one
pub returns-clause-heads : goal.returns-clause-heads
returns-clause-heads g c =
    let planned = c.in-Ok.ensures in
    let reply = c.adopt_jobs-reply.ensures in
    old_behind c.adopt_jobs-reply.result _ _ (g.S.Scans.state c.args.scan.now).world c.args.old_path.now (g.S.Scans.state c.args.scan.now).heads _
    (subst (λ n. HasInspectedAll (g.S.Scans.state c.args.scan.now).world c.args.old_path.now (g.S.Scans.state c.args.scan.now).heads n) (sym reply.heads)
    (planned_all _ c.args.old_path.now c.in-Ok.job _ _ planned.told planned.read planned.job planned.once planned.heads))
    reply.went (λ reached went. adoption_unrefused _ _ _ _ _ _ _ _ _ _ _ went)

pub returns-in-Err-clause-heads : goal.returns-in-Err-clause-heads
returns-in-Err-clause-heads g c =
    let planned = c.in-Err.ensures in
    subst (AreOldHeads (g.S.Scans.state c.args.scan.now).world c.args.old_path.now (g.S.Scans.state c.args.scan.now).heads (g.S.Scans.state c.planned.new.scan).heads) (sym c.of_old_project.ensures)
    (old_unplanned c.in-Err.outcome _ c.args.old_path.now _ _ planned.kind planned.refused_heads)

pub returns-clause-untouched : goal.returns-clause-untouched
returns-clause-untouched g c = left_by _ _ _ _ _ c.adopt_jobs-reply.ensures.went (λ reached went. adoption_unrefused _ _ _ _ _ _ _ _ _ _ _ went)

pub returns-clause-old_untouched : goal.returns-clause-old_untouched
returns-clause-old_untouched g c = left_by _ _ _ _ _ c.adopt_jobs-reply.ensures.went (λ reached went. adoption_unrefused _ _ _ _ _ _ _ _ _ _ _ went)
