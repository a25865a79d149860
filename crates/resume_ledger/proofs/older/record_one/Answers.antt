use Rattle.std.proofs.Common.{subst}
use Rattle.reel_disk.specs.Disk.{view_of}
use Rattle.resume_ledger.specs.Hash.{IsHashOf}
use Rattle.resume_ledger.proofs.Recording.{shut}
use Rattle.resume_ledger.proofs.older.record_one.Goals as goal

pub returns-in-Ok-None-clause-recorded : goal.returns-in-Ok-None-clause-recorded
returns-in-Ok-None-clause-recorded g c told =
    let none = subst (IsHashOf (view_of (g.D.Disk.state c.args.disk.now).history c.args.id) c.args.size) c.in-Ok-None.field-0-is (c.in-Ok-None.ensures.hash told) in
    shut _ _ _ _ _ c.requires.closed (λ both. none both.1)
