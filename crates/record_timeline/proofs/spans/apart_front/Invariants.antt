use Rattle.std.proofs.Common.{◌-◌, ◌≤◌}
use Rattle.record_timeline.specs.inside.Spans.{AreApart}
use Rattle.record_timeline.proofs.spans.apart_front.Given as goal

abbrev pub invariant-loop-meet : goal.invariant-loop-meet
invariant-loop-meet l = AreApart l.spans l.apart × (l.apart ≤ l.meet) × (l.meet ≤ l.len)

abbrev pub decreases-loop-meet : goal.decreases-loop-meet
decreases-loop-meet l = l.meet - l.apart
