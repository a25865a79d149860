use Rattle.std.proofs.Common.{◌*◌, ◌+◌, ◌≤◌, rules, refl, arith, ◌∙◌}
use Rattle.crew_seat.proofs.Stepping.{stepped_along, stepped_claimed, stepped_itself, stepped_left, worked_first}
use Rattle.crew_worker.proofs.Made.{claimed_since, claiming, claiming_on, left_behind, left_on, left_unfailed, still_since, unclaimed}
use Rattle.crew_seat.specs.Worked.{worker_loads}
use Rattle.crew_worker.proofs.rounds.Shared.rounds.Goals as goal

pub loop-init : goal.loop-init
loop-init g c = record {
  within = search rules;
  ending = search rules;
  short = search rules;
  number = refl;
  closed = c.requires.closed;
  room = search rules;
  unfailed = c.requires.unfailed;
  marks = refl;
  stepped = stepped_itself g.N.Work.files g.S.Scans.state _ 0 c.args.seat.now;
}

pub loop-preserved : goal.loop-preserved
loop-preserved g c =
    let goes_on = c.in-Ok.ensures.goes_on in
    record {
      within = search rules;
      ending = search rules;
      short = search rules;
      number = c.round.ensures.number ∙ c.loop.invariant.number;
      closed = goes_on.2;
      room = c.in-Ok.ensures.room;
      unfailed = goes_on.1;
      marks = claiming_on c.args.seat.now.marks c.loop.seat.marks c.round.new.seat.marks c.loop.invariant.marks goes_on.0;
      stepped = stepped_along g.N.Work.files g.S.Scans.state (2 * c.loop.counter) 2 (2 * (c.loop.counter + 1)) 0 0 0 c.args.seat.now c.loop.seat c.round.new.seat
          (omega arith) (omega arith) c.loop.invariant.stepped c.round.ensures.stepped;
    }

-- it has stopped or was turned away in a round
pub returns-in-Err-clause-worked : goal.returns-in-Err-clause-worked
returns-in-Err-clause-worked g c =
    let inv = c.loop.invariant in
    let le : 2 * (c.loop.counter + 1) ≤ worker_loads = let lt = c.loop-test.true in let ending = inv.ending in let short = inv.short in omega (arith, lt, ending, short) in
    worked_first g.N.Work.files g.S.Scans.state (2 * (c.loop.counter + 1)) worker_loads c.args.seat.now c.round.new.seat le c.requires.none c.requires.unfailed
    (stepped_along g.N.Work.files g.S.Scans.state (2 * c.loop.counter) 2 (2 * (c.loop.counter + 1)) 0 0 0 c.args.seat.now c.loop.seat c.round.new.seat
    (omega arith) (omega arith) inv.stepped c.round.ensures.stepped)

-- no frame was left, or one that it could not make
pub returns-in-Err-take_frame-clause-worked : goal.returns-in-Err-take_frame-clause-worked
returns-in-Err-take_frame-clause-worked g c =
    let inv = c.loop.invariant in
    let le : 2 * c.loop.counter ≤ worker_loads = let within = inv.within in let ending = inv.ending in let short = inv.short in omega (arith, within, ending, short) in
    worked_first g.N.Work.files g.S.Scans.state (2 * c.loop.counter) worker_loads c.args.seat.now _ le c.requires.none c.requires.unfailed
    (stepped_along g.N.Work.files g.S.Scans.state (2 * c.loop.counter) 0 (2 * c.loop.counter) 0 0 0 c.args.seat.now c.loop.seat _ (omega arith) (omega arith) inv.stepped
    (stepped_claimed g.N.Work.files g.S.Scans.state 0 0 0 c.loop.seat _ refl refl refl refl (unclaimed _ _ c.in-Err-take_frame.ensures.uncounted)))

pub returns-clause-worked : goal.returns-clause-worked
returns-clause-worked g c =
    let inv = c.loop.invariant in
    let le : 2 * c.loop.counter ≤ worker_loads = let within = inv.within in let ending = inv.ending in let short = inv.short in omega (arith, within, ending, short) in
    worked_first g.N.Work.files g.S.Scans.state (2 * c.loop.counter) worker_loads c.args.seat.now _ le c.requires.none c.requires.unfailed
    (stepped_along g.N.Work.files g.S.Scans.state (2 * c.loop.counter) 0 (2 * c.loop.counter) 0 0 0 c.args.seat.now c.loop.seat _ (omega arith) (omega arith) inv.stepped
    (stepped_along g.N.Work.files g.S.Scans.state 0 0 0 0 0 0 c.loop.seat (record c.loop.seat { marks = c.take_frame.new.marks }) _ (omega arith) (omega arith)
    (stepped_claimed g.N.Work.files g.S.Scans.state 0 0 _ c.loop.seat _ refl refl refl refl c.in-Ok-take_frame.ensures.counted)
    (stepped_left g.N.Work.files g.S.Scans.state 0 0 _ _ c.give_up.result refl refl refl refl c.give_up.ensures.left)))

-- the marks count what was claimed since, and a stop
pub returns-in-Err-clause-left : goal.returns-in-Err-clause-left
returns-in-Err-clause-left g c = left_on _ c.args.seat.now.marks c.loop.seat.marks c.round.new.seat.marks c.in-Err.leave c.loop.invariant.marks c.in-Err.ensures.left

pub returns-in-Err-take_frame-clause-left : goal.returns-in-Err-take_frame-clause-left
returns-in-Err-take_frame-clause-left g c =
    claiming_on c.args.seat.now.marks c.loop.seat.marks c.take_frame.new.marks c.loop.invariant.marks (still_since c.loop.seat.marks c.take_frame.new.marks c.in-Err-take_frame.ensures.uncounted)

pub returns-clause-left : goal.returns-clause-left
returns-clause-left g c =
    left_unfailed _ _ (claiming c.args.seat.now.marks c.give_up.new.marks.claims) c.give_up.new.marks c.give_up.result c.loop.invariant.unfailed
    (left_behind _ c.args.seat.now.marks c.take_frame.new.marks c.give_up.new.marks c.give_up.result
    (claiming_on c.args.seat.now.marks c.loop.seat.marks c.take_frame.new.marks c.loop.invariant.marks (claimed_since c.loop.seat.marks c.take_frame.new.marks _ c.in-Ok-take_frame.ensures.counted))
    c.give_up.ensures.left)
