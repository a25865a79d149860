use Rattle.record_timeline.specs.inside.Spans.{ApartBelow}
use Rattle.record_timeline.proofs.SpanLaws.{EndBelow}
use Rattle.record_timeline.proofs.spans.are_apart.Given as goal

abbrev pub invariant-loop-span : goal.invariant-loop-span
invariant-loop-span l = ApartBelow l.spans l.front l.span-index × EndBelow l.spans l.front l.span-index l.«end»
