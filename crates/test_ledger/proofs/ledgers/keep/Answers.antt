-- What a note leaves is what an acknowledgement wants.
use Rattle.test_ledger.proofs.ledgers.keep.Goals as goal

pub ack-requires-clause-agrees : goal.ack-requires-clause-agrees
ack-requires-clause-agrees g c told = (c.in_ok-note.ensures.noted told).agrees
