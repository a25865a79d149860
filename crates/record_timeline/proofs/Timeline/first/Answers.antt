use Rattle.record_timeline.proofs.EndLaws.{end_in_day}
use Rattle.record_timeline.proofs.Timeline.first.Goals as goal

pub returns-clause-day : goal.returns-clause-day
returns-clause-day c =
    let t = c.self.inside in
    rw (c.self.invariant.begins, ← c.self.view_is) (end_in_day t.rate t.list.mode t.list.events c.self.invariant.accepted.made)
