-- The ledger was looked at, and then the frames were counted.
use Rattle.std.proofs.Common.{map, refl}
use Rattle.reel_disk.specs.State.{folder_state}
use Rattle.project_run.proofs.Runs.{match_each}
use Rattle.project_run.proofs.Looking.{folder_read, tabled_by}
use Rattle.project_run.proofs.quality.tabled.Goals as goal

pub returns-in-Ok-clause-tabled : goal.returns-in-Ok-clause-tabled
returns-in-Ok-clause-tabled g c =
    let state = λ (d : _). folder_state g.D.Disk.tells (g.D.Disk.state d) in
    let by = tabled_by c.args.job.now (state c.args.disk.now) (state c.look.new.disk) (state c.counted-reply.new.disk) c.in-Ok.view c.digest.result c.count.result (map (λ p. p.kind) c.args.probes.now)
    c.digest.ensures (rw c.timeline.ensures at c.count.ensures.count) refl (folder_read c.look.ensures.reads) (folder_read c.counted-reply.ensures.reads) c.in-Ok.ensures.answer c.in-Ok.ensures.known c.in-Ok.ensures.calls in
    match_each _ _ _ _ _ c.counted-reply.ensures.counted (λ text counted. by _ _ counted) (λ outcome counted. by _ _ counted)
