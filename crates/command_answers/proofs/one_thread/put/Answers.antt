-- All of the output was put, so the outcome stays.
use Rattle.std.proofs.Common.{refl, inl}
use Rattle.command_answers.proofs.one_thread.put.Goals as goal

pub returns-in-All-clause-put : goal.returns-in-All-clause-put
returns-in-All-clause-put g c = inl (refl, c.put.ensures.all c.in-All.is, c.put.ensures.fault.counts.steady (λ failed. let is = c.in-All.is in cc))
