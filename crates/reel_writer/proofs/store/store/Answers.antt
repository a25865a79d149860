use Rattle.std.proofs.Common.{◌≡◌, true, inl, inr}
use Rattle.reel_disk.specs.Disk.{moment_of}
use Rattle.reel_disk.specs.Runs.{Surely}
use Rattle.reel_disk.proofs.Writing.{writing_then, writing_wider}
use Rattle.reel_writer.specs.Reel.{HasStored}
use Rattle.reel_writer.proofs.Finishing.{finishing_along, wrote, agrees_still, stored_still, given_ok}
use Rattle.reel_writer.proofs.store.store.Goals as goal

-- the file wasn't stored
pub returns-in_default-clause-finishing : goal.returns-in_default-clause-finishing
returns-in_default-clause-finishing g c told = wrote _ _ (c.requires.agrees told) _ c.requires.fresh _ c.requires.frame _ _ (c.write_firmly.ensures.put told) (c.write_firmly.ensures.spares told)

-- it was
pub acknowledge-requires-clause-agrees : goal.acknowledge-requires-clause-agrees
acknowledge-requires-clause-agrees g c told = agrees_still _ _ (c.requires.agrees told) _ c.requires.fresh _ c.requires.frame _ c.args.bytes.now (c.write_firmly.ensures.put told) (c.write_firmly.ensures.spares told)

pub returns-clause-finishing : goal.returns-clause-finishing
returns-clause-finishing g c told =
    let firmly = c.in-Ok.ensures.firmly told in
    finishing_along _ _ _ _ _ _ _ _ (wrote _ _ (c.requires.agrees told) _ c.requires.fresh _ c.requires.frame _ _ (c.write_firmly.ensures.put told) (c.write_firmly.ensures.spares told))
    (c.acknowledge.ensures.finishing told c.args.file c.args.bytes.now c.requires.frame c.requires.hash firmly.there firmly.firm)

pub returns-clause-ledger : goal.returns-clause-ledger
returns-clause-ledger g c = c.acknowledge.ensures.ledger

pub returns-clause-stored : goal.returns-clause-stored
returns-clause-stored g c = given_ok c.acknowledge.result (g.D.Disk.tells ≡ true → Surely (moment_of (g.D.Disk.state c.acknowledge.new.disk).history) (HasStored c.args.file c.args.bytes.now))
    (λ told. let firmly = c.in-Ok.ensures.firmly told in stored_still c.args.file c.requires.frame _ _ (c.acknowledge.ensures.past told) (c.acknowledge.ensures.spares told) c.args.bytes.now firmly.there firmly.firm)

-- which files are written
pub returns-in_default-clause-own : goal.returns-in_default-clause-own
returns-in_default-clause-own g c = writing_wider (λ q is. inl is) c.write_firmly.ensures.own

pub returns-clause-own : goal.returns-clause-own
returns-clause-own g c = writing_then (writing_wider (λ q is. inl is) c.write_firmly.ensures.own) (writing_wider (λ q is. inr is) c.acknowledge.ensures.own)
