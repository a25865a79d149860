use Rattle.resume_ledger.proofs.sealed.in_force.Goals as goal

pub returns-in-Ok-true-clause-version : goal.returns-in-Ok-true-clause-version
returns-in-Ok-true-clause-version g c told = (c.in-Ok-true.ensures.sealed told).0 c.in-Ok-true.field-0-test
