-- The ledger was looked at, and then the sheet was made, or it can't be had.
use Rattle.std.proofs.Common.{refl, subst, sym}
use Rattle.printed_lines.specs.Lines.{line_of}
use Rattle.outcome.specs.declared.Outcome.{Outcome}
use Rattle.reel_disk.specs.State.{folder_state}
use Rattle.project_run.specs.Sheet.{HasSheet}
use Rattle.project_run.proofs.Runs.{match_each}
use Rattle.project_run.proofs.Looking.{folder_read, sheet_by, unsheeted}
use Rattle.project_run.proofs.contact.sheet_of.Goals as goal

pub returns-in-Ok-clause-made : goal.returns-in-Ok-clause-made
returns-in-Ok-clause-made g c =
    let state = λ (d : _). folder_state g.D.Disk.tells (g.D.Disk.state d) in
    let by = sheet_by c.args.job.now (state c.args.disk.now) (state c.look.new.disk) (state c.sheeted-reply.new.disk) c.in-Ok.view c.digest.result c.count.result c.args.tone.now.table
    c.digest.ensures (rw c.timeline.ensures at c.count.ensures.count) refl (folder_read c.look.ensures.reads) c.sheeted-reply.ensures.writes c.sheeted-reply.ensures.past c.sheeted-reply.ensures.spares c.in-Ok.ensures.answer c.in-Ok.ensures.known c.in-Ok.ensures.calls in
    match_each _ _ _ _ _ c.sheeted-reply.ensures.sheeted (λ text sheeted. by _ _ sheeted) (λ outcome sheeted. by _ _ sheeted)

pub returns-in-Err-clause-made : goal.returns-in-Err-clause-made
returns-in-Err-clause-made g c =
    let state = λ (d : _). folder_state g.D.Disk.tells (g.D.Disk.state d) in
    subst (λ (o : Outcome). HasSheet c.args.tone.now.table c.args.job.now (state c.args.disk.now) (state c.look.new.disk) o (line_of o)) (sym c.outcome_of_fault.ensures)
    (unsheeted c.args.tone.now.table c.args.job.now (state c.args.disk.now) (state c.look.new.disk) c.in-Err.fault c.digest.result c.count.result
    c.digest.ensures (rw c.timeline.ensures at c.count.ensures.count) c.in-Err.ensures.answer c.in-Err.ensures.known (folder_read c.look.ensures.reads) _)
