-- The scan tells the files of the demonstration, and none of its calls fails.
use Rattle.std.proofs.Common.{ap, arith, Err}
use Rattle.cf_base.specs.Count.{HasRisen}
use Rattle.demo.proofs.Answering.{is_instead, is_shown}
use Rattle.demo.proofs.shown.demo.Goals as goal

pub returns-in-Err : goal.returns-in-Err
returns-in-Err c =
    let never : HasRisen 0 0 → ⊥ = λ rose. omega arith in
    is_instead c.args.events _ _ c.new-scan.ensures c.in-Ok.ensures _ c.project_path.ensures c.job_laws.ensures.job c.requires.some c.requires.most c.in-Err.outcome c.in-Err.ensures.told (λ same. never (c.in-Err.ensures.scan.counts.cause.failed (ap Err same)))

pub returns-in-Ok-text : goal.returns-in-Ok-text
returns-in-Ok-text c = is_shown c.args.events _ _ c.new-scan.ensures c.in-Ok.ensures _ c.project_path.ensures c.in-Ok-planned.job c.in-Ok-text.text.items _ c.in-Ok-planned.ensures.told c.in-Ok-planned.ensures.scan.told (rw c.in-Ok-text.is at c.shown-text.ensures)
