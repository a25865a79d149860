use Rattle.std.proofs.Common.{refl, ap, arith, subst}
use Rattle.std.proofs.lemmas.Result.{on_ok_weaker}
use Rattle.frame_fetch.specs.Asks.{needs_of}
use Rattle.station.specs.Marks.{Tallies, Tally}
use Rattle.crew_seat.specs.inside.Worked.{HasMarked}
use Rattle.crew_seat.proofs.Stepping.{marked_claimed, stepped_claimed, stepped_made}
use Rattle.crew_worker.proofs.Made.{claimed_since, claiming_on, left_since, none_failed, of_ok, still_since, unclaimed}
use Rattle.crew_worker.proofs.rounds.Shared.round.Goals as goal

-- no frame was taken
pub returns-in-Err-clause-stepped : goal.returns-in-Err-clause-stepped
returns-in-Err-clause-stepped g c = stepped_claimed g.N.Work.files g.S.Scans.state 2 0 0 c.args.seat.now _ refl refl refl refl (unclaimed _ _ c.in-Err.ensures.uncounted)

pub returns-in-Err-clause-left : goal.returns-in-Err-clause-left
returns-in-Err-clause-left g c = still_since _ _ c.in-Err.ensures.uncounted

-- its loads are no more than the frame needs that it took
pub returns-clause-stepped : goal.returns-clause-stepped
returns-clause-stepped g c =
    stepped_made g.N.Work.files g.S.Scans.state 2 0 c.args.seat.now _ c.make_forked-made.result c.is_source_fault-seat.result c.is_source_fault-seat.ensures c.requires.unfailed refl
    c.make_forked-made.ensures.loaded
    (marked_claimed g.N.Work.files c.make_forked-made.result _ c.args.seat.now.marks _
    (subst (λ (t : Tallies). HasMarked g.N.Work.files c.make_forked-made.result t c.deliver.new.marks) c.in-Ok.ensures.counted c.deliver.ensures.marks))
    (let needed = c.make_forked-made.ensures.needed in let same = ap (needs_of g.N.Work.job) c.frame.ensures in
    let counted = ap (λ (t : Tallies). t.claims.amount) c.in-Ok.ensures.counted in let claims = ap (λ (t : Tally). t.amount) c.deliver.ensures.claims in
    omega (arith, needed, same, counted, claims))

pub returns-clause-goes_on : goal.returns-clause-goes_on
returns-clause-goes_on g c =
    on_ok_weaker c.deliver.result
    (λ both. (
      claiming_on c.args.seat.now.marks c.take_frame.new.marks c.deliver.new.marks (claimed_since c.args.seat.now.marks c.take_frame.new.marks _ c.in-Ok.ensures.counted) (still_since c.take_frame.new.marks c.deliver.new.marks both.0),
      none_failed c.make_forked-made.result c.is_source_fault-seat.result c.is_source_fault-seat.ensures both.1,
      of_ok c.make_forked-made.result _ both.1 c.make_forked-made.ensures.loaded.closed,
    ))
    c.deliver.ensures.goes_on

pub returns-clause-left : goal.returns-clause-left
returns-clause-left g c =
    left_since c.deliver.result c.make_forked-made.result c.is_source_fault-seat.result c.is_source_fault-seat.ensures c.args.seat.now.marks c.take_frame.new.marks c.deliver.new.marks
    (claimed_since c.args.seat.now.marks c.take_frame.new.marks _ c.in-Ok.ensures.counted) c.deliver.ensures.left
