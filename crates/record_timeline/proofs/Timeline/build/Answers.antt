-- A list is refused for what its lines share before it is for its length.
use Rattle.std.proofs.Common.{◌≡◌, None, sym, ap, ◌∙◌}
use Rattle.record_timeline.specs.Accepted.{first_overlap}
use Rattle.record_timeline.proofs.BuildLaws.{counted, shared_refused, long_refused, timeline_made}
use Rattle.record_timeline.proofs.Timeline.build.Goals as goal

pub returns-in-Some-clause-timeline : goal.returns-in-Some-clause-timeline
returns-in-Some-clause-timeline c =
    shared_refused c.args.rate c.args.list c.in-Some.overlap (ap first_overlap (sym c.items-events.ensures) ∙ sym c.first_overlap.ensures ∙ c.in-Some.is)

pub returns-then-count-gt-FRAMES-clause-timeline : goal.returns-then-count-gt-FRAMES-clause-timeline
returns-then-count-gt-FRAMES-clause-timeline c =
    let none : c.first_overlap.result ≡ None = cc in
    let count = counted c.args.list.events _ _ _ _ c.items-events.ensures c.first_frame-first.ensures.value c.end_frame.ensures.value c.saturating_sub-count.ensures in
    long_refused c.args.rate c.args.list (ap first_overlap (sym c.items-events.ensures) ∙ sym c.first_overlap.ensures ∙ none) (rw count at c.if-count-gt-FRAMES.true)

pub invariant_of-result : goal.invariant_of-result
invariant_of-result c =
    let none : c.first_overlap.result ≡ None = cc in
    let count = counted c.args.list.events _ _ _ _ c.items-events.ensures c.first_frame-first.ensures.value c.end_frame.ensures.value c.saturating_sub-count.ensures in
    record {
      accepted = record {
        made = c.requires;
        apart = ap first_overlap (sym c.items-events.ensures) ∙ sym c.first_overlap.ensures ∙ none;
        short = rw count at c.if-count-gt-FRAMES.false;
      };
      sorted = rw c.items-events.ensures at c.in-Ok.ensures;
      begins = rw c.items-events.ensures at c.first_frame-first.ensures.value;
      lasts = count;
    }

pub returns-clause-timeline : goal.returns-clause-timeline
returns-clause-timeline c =
    let none : c.first_overlap.result ≡ None = cc in
    let count = counted c.args.list.events _ _ _ _ c.items-events.ensures c.first_frame-first.ensures.value c.end_frame.ensures.value c.saturating_sub-count.ensures in
    timeline_made c.args.rate c.args.list (ap first_overlap (sym c.items-events.ensures) ∙ sym c.first_overlap.ensures ∙ none) (rw count at c.if-count-gt-FRAMES.false)
