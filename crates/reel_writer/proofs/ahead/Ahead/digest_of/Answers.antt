use Rattle.std.proofs.Common.{arith, subst, sym}
use Rattle.reel_writer.specs.inside.Ahead.{AreRead, IsOnceSoFar}
use Rattle.reel_writer.proofs.Once.{taken_back}
use Rattle.reel_writer.proofs.Rooms.{put_back}
use Rattle.reel_writer.proofs.ahead.Ahead.digest_of.Goals as goal

pub returns-clause-hashed : goal.returns-clause-hashed
returns-clause-hashed g c =
    let disk = g.D.Disk.state c.hash_until.new.disk in
    c.take_digest.ensures.hashed c.args.job.now g.D.Disk.tells disk (subst (AreRead c.args.job.now g.D.Disk.tells disk) (sym c.deref_mut.ensures.value) c.in_ok-hash_until.ensures.rooms)

pub returns-clause-rooms : goal.returns-clause-rooms
returns-clause-rooms g c =
    let disk = g.D.Disk.state c.hash_until.new.disk in
    put_back c.args.job.now g.D.Disk.tells disk c.take_digest.new.rooms c.hash_until.new.self.rooms.items c.hash_until.new.self.rooms.len
    (omega (arith, c.take_digest.auto.rooms, c.deref_mut.ensures.len))
    (c.take_digest.ensures.rooms c.args.job.now g.D.Disk.tells disk (subst (AreRead c.args.job.now g.D.Disk.tells disk) (sym c.deref_mut.ensures.value) c.in_ok-hash_until.ensures.rooms))

-- no file was read twice
pub returns-clause-once : goal.returns-clause-once
returns-clause-once g c before sofar =
    let job = c.args.job.now in
    let new = (g.D.Disk.state c.hash_until.new.disk).calls in
    let next = c.hash_until.new.self.next in
    taken_back job c.args.i next before new c.take_digest.new.rooms c.hash_until.new.self.rooms.items c.hash_until.new.self.rooms.len
    (omega (arith, c.take_digest.auto.rooms, c.deref_mut.ensures.len)) c.take_digest.result
    (c.take_digest.ensures.once job next before new (subst (IsOnceSoFar job c.args.i next before new) (sym c.deref_mut.ensures.value) (c.in_ok-hash_until.ensures.once before sofar)))
