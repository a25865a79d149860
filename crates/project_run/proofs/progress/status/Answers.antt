-- The project comes to its job, and the folder is looked at.
use Rattle.std.proofs.Common.{inr}
use Rattle.project_run.proofs.Runs.{job_looks, looked_in, match_each, unplanned}
use Rattle.project_run.proofs.Leaving.{disk_left, disk_unplanned, planned_all, scan_looked, scan_unplanned, status_unrefused}
use Rattle.project_run.proofs.progress.status.Goals as goal

pub returns-clause-folder : goal.returns-clause-folder
returns-clause-folder g c =
    let job = c.in-Ok.ensures in
    match_each _ _ _ _ _ c.status_of-reply.ensures.status (λ text status. looked_in _ c.in-Ok.job _ _ _ _ _ _ _ job.told job.read job.loaded status) (λ outcome status. looked_in _ c.in-Ok.job _ _ _ _ _ _ _ job.told job.read job.loaded status)

pub returns-clause-scan : goal.returns-clause-scan
returns-clause-scan g c =
    let reply = c.status_of-reply.ensures in
    scan_looked c.args.path.now _ _ c.in-Ok.job _ _ _ c.in-Ok.ensures.scan (let job = c.in-Ok.ensures in planned_all _ c.args.path.now c.in-Ok.job _ _ job.told job.read job.job job.once job.heads)
    reply.never reply.status (λ reached was. status_unrefused _ _ _ _ _ was)

pub returns-clause-disk : goal.returns-clause-disk
returns-clause-disk g c =
    let reply = c.status_of-reply.ensures in
    disk_left g.D.Disk.state _ _ _ _ _ reply.disk reply.status (λ reached was. status_unrefused _ _ _ _ _ was)

-- no job was planned
pub returns-in-Err : goal.returns-in-Err
returns-in-Err g c = let job = c.in-Err.ensures in record {
  folder = inr (unplanned _ _ _ _ _ _ job.told job.read job.kind job.loads job.refused);
  kind = job_looks _ job.kind;
  scan = scan_unplanned c.args.path.now _ _ _ job.scan job.refused_heads job.kind;
  disk = disk_unplanned g.D.Disk.state c.in-Err.outcome c.args.disk.now job.kind;
}
