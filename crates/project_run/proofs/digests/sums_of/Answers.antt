-- The ledger was looked at, and its lines were put, or no memory was left for them.
use Rattle.std.proofs.Common.{refl, inl}
use Rattle.reel_disk.specs.State.{folder_state}
use Rattle.project_run.proofs.Looking.{folder_read, summed_by}
use Rattle.project_run.proofs.digests.sums_of.Goals as goal

pub returns-in-Ok-text-clause-summed : goal.returns-in-Ok-text-clause-summed
returns-in-Ok-text-clause-summed g c =
    let state = λ (d : _). folder_state g.D.Disk.tells (g.D.Disk.state d) in
    summed_by c.args.job.now (state c.args.disk.now) (state c.look.new.disk) c.in-Ok.view c.digest.result c.count.result
    c.digest.ensures (rw c.timeline.ensures at c.count.ensures.count) (folder_read c.look.ensures.reads) c.in-Ok.ensures.answer c.in-Ok.ensures.known _ _ (record { kind = inl refl; form = λ done. c.in-Ok-text.ensures })
