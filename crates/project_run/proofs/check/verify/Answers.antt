-- The project comes to its job, and the folder is checked.
use Rattle.std.proofs.Common.{inr}
use Rattle.project_run.proofs.Runs.{job_verifies, looked_in, match_each, unplanned}
use Rattle.project_run.proofs.Leaving.{check_unrefused, disk_left, disk_unplanned, planned_all, scan_looked, scan_unplanned}
use Rattle.project_run.proofs.check.verify.Goals as goal

pub returns-clause-folder : goal.returns-clause-folder
returns-clause-folder g c =
    let job = c.in-Ok.ensures in
    match_each _ _ _ _ _ c.verified-reply.ensures.verified (λ text verified. looked_in _ c.in-Ok.job _ _ _ _ _ _ _ job.told job.read job.loaded verified) (λ outcome verified. looked_in _ c.in-Ok.job _ _ _ _ _ _ _ job.told job.read job.loaded verified)

pub returns-clause-scan : goal.returns-clause-scan
returns-clause-scan g c =
    let reply = c.verified-reply.ensures in
    scan_looked c.args.path.now _ _ c.in-Ok.job _ _ _ c.in-Ok.ensures.scan (let job = c.in-Ok.ensures in planned_all _ c.args.path.now c.in-Ok.job _ _ job.told job.read job.job job.once job.heads)
    reply.never reply.verified (λ reached was. check_unrefused _ _ _ _ _ was)

pub returns-clause-disk : goal.returns-clause-disk
returns-clause-disk g c =
    let reply = c.verified-reply.ensures in
    disk_left g.D.Disk.state _ _ _ _ _ reply.disk reply.verified (λ reached was. check_unrefused _ _ _ _ _ was)

-- no job was planned
pub returns-in-Err : goal.returns-in-Err
returns-in-Err g c = let job = c.in-Err.ensures in record {
  folder = inr (unplanned _ _ _ _ _ _ job.told job.read job.kind job.loads job.refused);
  kind = job_verifies _ job.kind;
  scan = scan_unplanned c.args.path.now _ _ _ job.scan job.refused_heads job.kind;
  disk = disk_unplanned g.D.Disk.state c.in-Err.outcome c.args.disk.now job.kind;
}
