-- The ledger was looked at, and then the files were checked.
use Rattle.std.proofs.Common.{refl}
use Rattle.reel_disk.specs.State.{folder_state}
use Rattle.project_run.proofs.Runs.{match_each}
use Rattle.project_run.proofs.Looking.{folder_read, verified_by}
use Rattle.project_run.proofs.check.verified.Goals as goal

pub returns-in-Ok-clause-verified : goal.returns-in-Ok-clause-verified
returns-in-Ok-clause-verified g c =
    let state = λ (d : _). folder_state g.D.Disk.tells (g.D.Disk.state d) in
    let by = verified_by c.args.job.now (state c.args.disk.now) (state c.look.new.disk) (state c.checked-reply.new.disk) c.in-Ok.view c.digest.result c.count.result
    c.digest.ensures (rw c.timeline.ensures at c.count.ensures.count) refl (folder_read c.look.ensures.reads) (folder_read c.checked-reply.ensures.reads) c.in-Ok.ensures.answer c.in-Ok.ensures.known c.in-Ok.ensures.calls in
    match_each _ _ _ _ _ c.checked-reply.ensures.checked (λ text checked. by _ _ checked) (λ outcome checked. by _ _ checked)
