use Rattle.std.proofs.Common.{sym, ◌∙◌, ap}
use Rattle.std.specs.Option.{option_copied}
use Rattle.record_timeline.proofs.ShotLaws.{read_there, begun_there, in_day, old_begun, shot_is, shot_fits}
use Rattle.record_timeline.proofs.Timeline.shot_at.Goals as goal

pub shot_within-requires-clause-begun : goal.shot_within-requires-clause-begun
shot_within-requires-clause-begun c =
    begun_there c.items-events.result.now c.args.n.0 c.in-Some.place (sym c.covering.ensures.value ∙ c.in-Some.is) c.index-events-place.result c.index-events-place.is

pub shot_within-requires-clause-frames : goal.shot_within-requires-clause-frames
shot_within-requires-clause-frames c =
    in_day c.self.inside.rate c.self.inside.list.mode c.items-events.result.now (rw (← c.items-events.ensures) at c.self.invariant.accepted.made) c.args.n.0 c.in-Some.place
    (sym c.covering.ensures.value ∙ c.in-Some.is)

pub shot_within-requires-clause-before : goal.shot_within-requires-clause-before
shot_within-requires-clause-before c x is lasts =
    let found = sym c.covering.ensures.value ∙ c.in-Some.is in
    let e = c.index-events-place in
    let events = c.items-events.result.now in
    old_begun c.self.inside.rate c.self.inside.list.mode events (rw (← c.items-events.ensures) at c.self.invariant.accepted.made) c.args.n.0 c.in-Some.place e.result x.now
    (read_there events c.args.n.0 c.in-Some.place found e.result e.is) (begun_there events c.args.n.0 c.in-Some.place found e.result e.is) (sym c.event_before-old.ensures.value ∙ ap option_copied is) lasts

pub returns-clause-shot : goal.returns-clause-shot
returns-clause-shot c =
    let found = sym c.covering.ensures.value ∙ c.in-Some.is in
    let e = c.index-events-place in
    let events = c.items-events.result.now in
    c.shot_within.ensures
    ∙ rw (← c.self.view_is, ← c.items-events.ensures)
    (shot_is c.self.inside.rate events c.args.n.0 c.in-Some.place e.result (option_copied c.event_before-old.result) found (read_there events c.args.n.0 c.in-Some.place found e.result e.is) c.event_before-old.ensures.value)

pub returns-clause-fits : goal.returns-clause-fits
returns-clause-fits c =
    let t = c.self.inside in
    rw (returns-clause-shot c, ← c.self.view_is) (shot_fits t.rate t.list.mode t.list.events c.self.invariant.accepted.made c.args.n.0)
