use Rattle.std.proofs.Common.{arith, refl, sym, ◌∙◌, length}
use Rattle.std.proofs.lemmas.Option.{slice_get_read, slice_get_within}
use Rattle.record_timeline.proofs.OverlapLaws.{first_refused, no_overlap_more, none_refused}
use Rattle.record_timeline.proofs.spans.first_of_pairs.Goals as goal

pub returns-in-Some : goal.returns-in-Some
returns-in-Some c =
    let events = c.args.events.now in
    let e = c.index-events-place in
    sym (first_refused events c.loop-place.place e.result _ (slice_get_read events (length events) c.loop-place.place e.result refl c.loop-place-test.true e.is) (sym c.overlap_with.ensures ∙ c.in-Some.is) c.loop-place.invariant)

pub loop-place-preserved : goal.loop-place-preserved
loop-place-preserved c =
    let events = c.args.events.now in
    let e = c.index-events-place in
    no_overlap_more events c.loop-place.place e.result (slice_get_read events (length events) c.loop-place.place e.result refl c.loop-place-test.true e.is) (sym c.overlap_with.ensures ∙ c.in_default.is) c.loop-place.invariant

pub returns : goal.returns
returns c =
    let events = c.args.events.now in
    sym (none_refused events (λ i e at. let below = slice_get_within events i e at in c.loop-place.invariant i e (omega (arith, below, c.loop-place-test.false)) at))
