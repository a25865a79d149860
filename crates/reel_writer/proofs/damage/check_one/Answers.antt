use Rattle.std.proofs.Common.{◌+◌, arith}
use Rattle.reel_writer.proofs.Once.{later}
use Rattle.reel_writer.proofs.damage.check_one.Goals as goal

-- no file was read
pub returns-in_default-clause-once : goal.returns-in_default-clause-once
returns-in_default-clause-once g c before sofar =
    later c.args.job.now c.args.i c.args.ahead.now.next before (g.D.Disk.state c.args.disk.now).calls c.args.ahead.now.rooms.items sofar (c.args.i + 1) (omega (arith))

pub returns-else-eq-clause-once : goal.returns-else-eq-clause-once
returns-else-eq-clause-once g c before sofar = (c.in-Ok.ensures.once before sofar).once
