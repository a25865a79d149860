use Rattle.std.proofs.Common.{◌∙◌, ap, sym}
use Rattle.std.specs.Prelude.{Some}
use Rattle.resume_ledger.proofs.Attaching.{acked_by}
use Rattle.resume_ledger.proofs.Openings.{acks_before}
use Rattle.resume_ledger.proofs.older.acked_before.Goals as goal

pub returns-clause-acked : goal.returns-clause-acked
returns-clause-acked g c told =
    acked_by c.args.digest c.args.count (g.D.Disk.state c.args.disk.now).history (g.D.Disk.state c.read_body.new.disk).history (c.requires.sealed told) (c.read_body.ensures.reading told).narrows (c.in-Ok.ensures.read (λ same. cc) told)
    c.deref.result.now (c.in-Ok.ensures.body told ∙ ap Some (sym c.deref.ensures.value)) c.judge.result c.judge.ensures

-- the bytes that were judged are those that were read
pub returns-clause-calls : goal.returns-clause-calls
returns-clause-calls g c = acks_before c.args.digest c.args.count c.in-Ok.body c.deref.result.now _ _ c.deref.ensures.value c.in-Ok.ensures.calls c.judge.result c.judge.ensures
