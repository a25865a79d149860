-- A file that isn't there is no failure.
use Rattle.std.proofs.Common.{arith, rules}
use Rattle.std.proofs.lemmas.Bool.{false≢true}
use Rattle.scan_source.proofs.memory.MemoryScansScans.load.Goals as goal

pub returns-in_default-clause-fault : goal.returns-in_default-clause-fault
returns-in_default-clause-fault c = record {
  counts = record { cause = record { later = omega (arith, c.fails_now.ensures.fault.counts.cause.later); failed = λ same. absurd (cc) }; steady = search rules };
  once = λ same. absurd (cc);
}

pub returns-in_default-clause-plan : goal.returns-in_default-clause-plan
returns-in_default-clause-plan c = record {
  failed = (λ same. absurd (cc), λ next. absurd (false≢true (c.if-fails_now.ensures.planned.1 next)));
  counted = search rules;
}
