-- What every job keeps, from what its plan found.
use Rattle.std.proofs.Common.{[], refl, subst}
use Rattle.std.specs.Prelude.{None}
use Rattle.conform_job.specs.Answers.{Grows}
use Rattle.conform_job.specs.Asks.{asks_of, shot_of_frame}
use Rattle.conform_job.specs.Job.{JobData}
use Rattle.conform_job.proofs.Needed.{met_at, needed_has}
use Rattle.conform_job.proofs.job.Job.recall.Goals as goal

pub returns-clause-keys : goal.returns-clause-keys
returns-clause-keys c key needed =
    let p = c.args.self.now.parts in
    (needed_has p.reels p.timeline.events (asks_of p.timeline) key needed).0

pub returns-clause-needs : goal.returns-clause-needs
returns-clause-needs c i within =
    let job = c.args.self.now in
    let filled = subst (λ (j : JobData). Grows j.parts None (asks_of j.parts.timeline) [] j.infos) c.self.view_is c.self.invariant.0.filled in
    met_at job.parts job.infos i (shot_of_frame job.parts.timeline i) filled within refl
