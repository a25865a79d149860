use Rattle.std.proofs.Common.{subst}
use Rattle.reel_disk.specs.Disk.{view_of}
use Rattle.resume_ledger.specs.inside.Steps.{IsVersionOf}
use Rattle.resume_ledger.proofs.Looking.{looked_along, viewed_none}
use Rattle.resume_ledger.proofs.ledger.Ledger.look.Goals as goal

pub returns-in-Ok-Some-clause-answer : goal.returns-in-Ok-Some-clause-answer
returns-in-Ok-Some-clause-answer g c told =
    looked_along c.args.digest c.args.count (g.D.Disk.state c.args.disk.now).history (g.D.Disk.state c.in_force.new.disk).history (g.D.Disk.state c.look_sealed.new.disk).history (c.in_force.ensures.reads.still told) c.look_sealed.result (c.look_sealed.ensures.answer told)

-- no version counts
pub returns-in-Ok-clause-answer : goal.returns-in-Ok-clause-answer
returns-in-Ok-clause-answer g c told =
    let files = view_of (g.D.Disk.state c.args.disk.now).history in
    viewed_none c.args.digest c.args.count files (subst (IsVersionOf files) c.in-Ok-None.field-0-is (c.in-Ok-None.ensures.version told)) c.in-Ok.gates.items (c.in-Ok.ensures.items_if_clones_equal (λ flag same. same))
