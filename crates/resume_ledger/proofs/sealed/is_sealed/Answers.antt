use Rattle.resume_ledger.proofs.Reading.{seal_reading, seal_read}
use Rattle.resume_ledger.proofs.sealed.is_sealed.Goals as goal

pub returns-in_default-clause-reading : goal.returns-in_default-clause-reading
returns-in_default-clause-reading g c told = seal_reading c.args.version _ _ _ _ (c.sync.ensures.told told) c.seal.ensures

pub returns-clause-reading : goal.returns-clause-reading
returns-clause-reading g c told = seal_read c.args.version _ _ _ _ (c.sync.ensures.told told) _ (c.has_seal.ensures.reads.still told) c.seal.ensures
