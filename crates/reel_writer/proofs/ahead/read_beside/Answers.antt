use Rattle.reel_writer.proofs.Rooms.{rest_read}
use Rattle.reel_writer.proofs.ahead.read_beside.Goals as goal

pub read_into-requires-clause-others : goal.read_into-requires-clause-others
read_into-requires-clause-others g c =
    rest_read c.args.job.now g.D.Disk.tells (g.D.Disk.state c.args.disk.now) c.in-Some.first.now c.in-Some.others.now c.args.rooms.now c.in-Some.ensures.cases.0 c.requires.rooms
