-- The end is that of the why, and of no other.
use Rattle.std.proofs.Common.{ap, sym}
use Rattle.std.specs.Prelude.{Some}
use Rattle.render_board.specs.declared.step.Why.{Why}
use Rattle.run_crew.specs.Crews.{end_by}
use Rattle.run_crew.proofs.crew.end_of_why.Goals as goal

pub returns-in-Source : goal.returns-in-Source
returns-in-Source c = ap (λ (w : Why). end_by (Some w)) (sym c.in-Source.is)

pub returns-in-Disk : goal.returns-in-Disk
returns-in-Disk c = ap (λ (w : Why). end_by (Some w)) (sym c.in-Disk.is)

pub returns-in-Memory : goal.returns-in-Memory
returns-in-Memory c = ap (λ (w : Why). end_by (Some w)) (sym c.in-Memory.is)

pub returns-in-Changed : goal.returns-in-Changed
returns-in-Changed c = ap (λ (w : Why). end_by (Some w)) (sym c.in-Changed.is)
