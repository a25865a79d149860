-- The project comes to its job, which is run in the folder.
use Rattle.std.proofs.Common.{inr, ap, ◌∙◌, subst, sym}
use Rattle.scan_source.proofs.Leaving.{leaves_then}
use Rattle.frame_range.specs.Parts.{range_of}
use Rattle.project_run.proofs.Runs.{match_each, of_job, run_in, unplanned}
use Rattle.project_job.specs.Asked.{HasInspectedAll}
use Rattle.project_run.proofs.Leaving.{disk_left, disk_unplanned, planned_all, run_unrefused, scan_left, scan_unplanned}
use Rattle.project_run.proofs.alone.run.Goals as goal

pub returns-clause-folder : goal.returns-clause-folder
returns-clause-folder g c =
    let job = c.in-Ok.ensures in
    let all = c.range_of-range.ensures.range ∙ ap (range_of c.args.extent) c.count.ensures.count in
    let reply = run_in c.in-Ok.job c.args.extent c.range_of-range.result (g.S.Scans.state c.planned.new.scan).world (g.S.Scans.state c.args.scan.now).world c.args.path.now _ _ (g.S.Scans.state c.args.scan.now).loads (g.S.Scans.state c.planned.new.scan).loads _ in
    match_each _ _ _ _ _ c.run_job-reply.ensures.ran (λ text ran. reply _ _ all job.scan.told job.told job.read job.loaded ran) (λ outcome ran. reply _ _ all job.scan.told job.told job.read job.loaded ran)

pub returns-clause-scan : goal.returns-clause-scan
returns-clause-scan g c =
    let reply = c.run_job-reply.ensures in
    scan_left c.args.path.now _ _ _ _ _
    (leaves_then (λ is. cc) c.in-Ok.ensures.scan reply.scan)
    (subst (λ n. HasInspectedAll (g.S.Scans.state c.args.scan.now).world c.args.path.now (g.S.Scans.state c.args.scan.now).heads n) (sym reply.heads)
    (let job = c.in-Ok.ensures in planned_all _ c.args.path.now c.in-Ok.job _ _ job.told job.read job.job job.once job.heads)) reply.ran (λ reached was. run_unrefused _ _ _ _ _ _ _ _ was)

pub returns-clause-disk : goal.returns-clause-disk
returns-clause-disk g c =
    let reply = c.run_job-reply.ensures in
    disk_left g.D.Disk.state _ _ _ _ _ reply.disk reply.ran (λ reached was. run_unrefused _ _ _ _ _ _ _ _ was)

-- no job was planned
pub returns-in-Err : goal.returns-in-Err
returns-in-Err g c = let job = c.in-Err.ensures in record {
  folder = inr (unplanned _ _ _ _ _ _ job.told job.read job.kind job.loads job.refused);
  kind = of_job _ job.kind;
  scan = scan_unplanned c.args.path.now _ _ _ job.scan job.refused_heads job.kind;
  disk = disk_unplanned g.D.Disk.state c.in-Err.outcome c.args.disk.now job.kind;
}
