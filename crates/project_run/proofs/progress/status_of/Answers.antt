-- The ledger was peeked at, and its number was put, or no memory was left for it.
use Rattle.std.proofs.Common.{inl, inr, refl}
use Rattle.reel_disk.specs.State.{folder_state}
use Rattle.project_run.proofs.Looking.{folder_read, status_by}
use Rattle.project_run.proofs.progress.status_of.Goals as goal

pub returns-in-Ok-status_text-clause-status : goal.returns-in-Ok-status_text-clause-status
returns-in-Ok-status_text-clause-status g c =
    let state = λ (d : _). folder_state g.D.Disk.tells (g.D.Disk.state d) in
    status_by c.args.job.now (state c.args.disk.now) (state c.peek.new.disk) c.in-Ok.acked c.digest.result c.count-count.result
    c.digest.ensures (rw c.timeline.ensures at c.count-count.ensures.count) (folder_read c.peek.ensures.reads) c.in-Ok.ensures.answer c.in-Ok.ensures.known
    _ (inl refl) _ (λ done. c.in-Ok-status_text.ensures)

pub returns-in-Err-status_text-clause-status : goal.returns-in-Err-status_text-clause-status
returns-in-Err-status_text-clause-status g c =
    let state = λ (d : _). folder_state g.D.Disk.tells (g.D.Disk.state d) in
    status_by c.args.job.now (state c.args.disk.now) (state c.peek.new.disk) c.in-Ok.acked c.digest.result c.count-count.result
    c.digest.ensures (rw c.timeline.ensures at c.count-count.ensures.count) (folder_read c.peek.ensures.reads) c.in-Ok.ensures.answer c.in-Ok.ensures.known
    _ (inr refl) _ (λ same. absurd (cc))
