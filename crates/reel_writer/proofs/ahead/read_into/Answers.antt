use Rattle.std.proofs.Common.{rules}
use Rattle.reel_writer.specs.Damage.{IsRecordedFile}
use Rattle.reel_writer.proofs.Once.{hashed_still_once}
use Rattle.reel_writer.proofs.Rooms.{all_read_on, all_still}
use Rattle.reel_writer.proofs.ahead.read_into.Goals as goal

pub hash_beside-requires-clause-work : goal.hash_beside-requires-clause-work
hash_beside-requires-clause-work g c = (c.requires.size, c.make_way.ensures.first c.args.job.now g.D.Disk.tells (g.D.Disk.state c.args.disk.now) c.requires.first c.requires.others)

pub returns-clause-others : goal.returns-clause-others
returns-clause-others g c =
    let before = g.D.Disk.state c.args.disk.now in
    all_still c.args.job.now g.D.Disk.tells (IsRecordedFile c.args.job.now c.args.view.now) before _ (search rules) (search rules) _
    (all_read_on c.args.job.now g.D.Disk.tells before _ c.make_way.new.others c.hash_beside.new.rooms c.hash_beside.ensures.hashed
    (c.make_way.ensures.others c.args.job.now g.D.Disk.tells before c.requires.first c.requires.others))

-- no file was read twice
pub returns-clause-once : goal.returns-clause-once
returns-clause-once g c low before le sofar =
    let calls = (g.D.Disk.state c.args.disk.now).calls in
    let led = c.hash_beside.ensures.worked.met.1.1.0 low before c.make_way.new.others le (c.make_way.ensures.once c.args.job.now low c.args.from before calls sofar) in
    hashed_still_once _ _ c.make_way.new.others c.hash_beside.new.rooms c.hash_beside.ensures.hashed c.args.job.now low before _ c.hash_beside.result (search (rules, led))
