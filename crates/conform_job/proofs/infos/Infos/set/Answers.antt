use Rattle.std.proofs.Common.{sym}
use Rattle.conform_job.proofs.KeyOrder.{set_alike, once_by}
use Rattle.conform_job.proofs.infos.Infos.set.Goals as goal
use Rattle.conform_job.proofs.infos.Infos.set.Goals.{in-Ok, in-Err}

pub returns-clause-set : goal.returns-clause-set
returns-clause-set c = elim c.match-insert.branch [
  | in-Ok w ↦ rw w.result-is (λ q. set_alike c.self.inside.by_key c.insert.new.self c.args.self.now c.args.key c.args.info q c.self.view_is (w.in-Ok.ensures.updates.0 q))
  | in-Err w ↦ rw w.result-is tt
]

pub returns-clause-once : goal.returns-clause-once
returns-clause-once c = elim c.match-insert.branch [
  | in-Ok w ↦ rw w.result-is (λ none once. once_by c.args.self.now c.insert.new.self.entries c.self.inside.by_key.entries c.args.key c.args.info (sym c.self.view_is) w.in-Ok.ensures.entries none once)
  | in-Err w ↦ rw w.result-is tt
]
