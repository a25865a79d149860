-- The project comes to its job, and the old one is looked at; or it comes to none.
use Rattle.std.proofs.Common.{inr, refl}
use Rattle.scan_source.proofs.Leaving.{leaves_as, leaves_then}
use Rattle.project_run.proofs.Leaving.{planned_all}
use Rattle.project_run.proofs.Runs.{match_each, unplanned}
use Rattle.project_adopt.proofs.Planning.{job_adopts, job_in}
use Rattle.printed_lines.specs.Lines.{line_of}
use Rattle.project_adopt.proofs.Heading.{heads_onward, new_unplanned}
use Rattle.project_adopt.proofs.plans.adopt.Goals as goal

pub returns-clause-folders : goal.returns-clause-folders
returns-clause-folders g c =
    let planned = c.in-Ok.ensures in
    let by = job_in (g.S.Scans.state c.planned.new.scan).world (g.S.Scans.state c.args.scan.now).world c.in-Ok.job c.args.path.now c.args.old_path.now _ _ _ _ (g.S.Scans.state c.args.scan.now).loads (g.S.Scans.state c.planned.new.scan).loads _ in
    match_each _ _ _ _ _ c.adopt_onto-reply.ensures.folders (λ text went. by _ _ planned.scan.told planned.told planned.read planned.loaded went) (λ outcome went. by _ _ planned.scan.told planned.told planned.read planned.loaded went)

pub returns-in-Err-clause-folders : goal.returns-in-Err-clause-folders
returns-in-Err-clause-folders g c =
    let planned = c.in-Err.ensures in
    inr (record { unplanned = unplanned _ _ _ _ _ _ planned.told planned.read planned.kind planned.loads planned.refused; untouched = refl })

pub returns-in-Err-clause-kind : goal.returns-in-Err-clause-kind
returns-in-Err-clause-kind g c = job_adopts _ c.in-Err.ensures.kind

pub returns-clause-scan : goal.returns-clause-scan
returns-clause-scan g c =
    let planned = c.in-Ok.ensures in
    let reply = c.adopt_onto-reply.ensures in
    record {
      lent = leaves_then (λ is. cc) planned.scan reply.scan;
      heads = heads_onward _ _ c.in-Ok.job (g.S.Scans.state c.args.scan.now).world (g.S.Scans.state c.planned.new.scan).world c.args.path.now c.args.old_path.now _ _ _ _ _ _ _ _ _ line_of
          planned.scan.told (planned_all _ c.args.path.now c.in-Ok.job _ _ planned.told planned.read planned.job planned.once planned.heads) reply.folders reply.heads;
    }

pub returns-in-Err-clause-scan : goal.returns-in-Err-clause-scan
returns-in-Err-clause-scan g c =
    let planned = c.in-Err.ensures in
    record {
      lent = leaves_as (λ is. cc) (λ is. cc) planned.scan;
      heads = new_unplanned c.in-Err.outcome _ c.args.path.now c.args.old_path.now _ _ planned.kind planned.refused_heads;
    }
