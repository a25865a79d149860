use Rattle.std.proofs.Common.{arith}
use Rattle.record_timeline.proofs.EndLaws.{some_frames}
use Rattle.record_timeline.proofs.Timeline.count.Goals as goal

pub returns-clause-some : goal.returns-clause-some
returns-clause-some c =
    let t = c.self.inside in
    let some = some_frames t.rate t.list.mode t.list.events c.self.invariant.accepted.made in
    omega (arith, some, c.self.invariant.lasts)
