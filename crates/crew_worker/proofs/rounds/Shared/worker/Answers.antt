use Rattle.std.proofs.Common.{refl, arith}
use Rattle.crew_seat.proofs.Stepping.{stepped_left, worked_first}
use Rattle.crew_worker.proofs.Made.{claiming, left_behind, left_unfailed}
use Rattle.crew_seat.specs.Worked.{worker_loads}
use Rattle.crew_worker.proofs.rounds.Shared.worker.Goals as goal

-- no room for a frame
pub returns-in-Err-clause-worked : goal.returns-in-Err-clause-worked
returns-in-Err-clause-worked g c =
    worked_first g.N.Work.files g.S.Scans.state 0 worker_loads c.args.seat.now _ (omega arith) c.requires.none c.requires.unfailed
    (stepped_left g.N.Work.files g.S.Scans.state 0 0 c.args.seat.now _ c.give_up.result refl refl refl refl c.give_up.ensures.left)

pub returns-in-Err-clause-left : goal.returns-in-Err-clause-left
returns-in-Err-clause-left g c = left_unfailed _ _ (claiming c.args.seat.now.marks c.give_up.new.marks.claims) c.give_up.new.marks c.give_up.result c.requires.unfailed
    (left_behind _ c.args.seat.now.marks c.args.seat.now.marks c.give_up.new.marks c.give_up.result refl c.give_up.ensures.left)
