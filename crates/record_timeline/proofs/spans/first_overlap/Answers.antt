use Rattle.std.proofs.Common.{sym}
use Rattle.std.proofs.lemmas.Option.{slice_get_within}
use Rattle.record_timeline.proofs.OverlapLaws.{none_refused}
use Rattle.record_timeline.proofs.SpanLaws.{apart_shares_none}
use Rattle.record_timeline.proofs.spans.first_overlap.Goals as goal

pub returns-then-are_apart : goal.returns-then-are_apart
returns-then-are_apart c =
    sym (none_refused c.args.events.now (λ i e at. apart_shares_none c.args.events.now c.args.spans.now _ c.requires (c.are_apart.ensures c.if-are_apart.true) i e (slice_get_within c.args.events.now i e at) at))

pub first_of_pairs-requires : goal.first_of_pairs-requires
first_of_pairs-requires c = apart_shares_none c.args.events.now c.args.spans.now _ c.requires c.apart_front.ensures.apart
