-- What was opened agrees with the disk.
use Rattle.test_ledger.proofs.ledgers.acknowledge.Goals as goal

pub keep_next-requires-clause-agrees : goal.keep_next-requires-clause-agrees
keep_next-requires-clause-agrees g c told = (c.in-Ok.ensures.answer told).agrees
