use Rattle.resume_ledger.proofs.Reading.{body_reading, body_read}
use Rattle.resume_ledger.proofs.sealed.read_body.Goals as goal

pub returns-in_default-clause-reading : goal.returns-in_default-clause-reading
returns-in_default-clause-reading g c told = body_reading c.args.version _ _ _ _ (c.sync.ensures.told told) c.body.ensures

pub returns-clause-reading : goal.returns-clause-reading
returns-clause-reading g c told = body_read c.args.version _ _ _ _ (c.sync.ensures.told told) _ (c.load_body.ensures.reads.still told) c.body.ensures
