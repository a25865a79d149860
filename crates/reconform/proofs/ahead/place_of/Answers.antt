use Rattle.std.proofs.Common.{arith}
use Rattle.reconform.proofs.Holding.{no_room}
use Rattle.reconform.proofs.ahead.place_of.Goals as goal

-- no room is the frame's
pub returns-clause-none : goal.returns-clause-none
returns-clause-none c same has = let late = c.loop-n-test.false in no_room c.args.rooms.now c.args.i c.loop-n.n c.loop-n.invariant (omega (arith, late)) has
