use Rattle.record_timeline.specs.inside.Spans.{NoOverlapBefore}
use Rattle.record_timeline.proofs.spans.first_of_pairs.Given as goal

abbrev pub invariant-loop-place : goal.invariant-loop-place
invariant-loop-place l = NoOverlapBefore l.events l.place
