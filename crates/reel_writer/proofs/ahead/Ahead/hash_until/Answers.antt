use Rattle.std.proofs.Common.{rules, refl, arith, subst, sym}
use Rattle.std.proofs.lemmas.Result.{MatchResult-from_err}
use Rattle.resume_ledger.proofs.Reading.{reads_along, reads_none}
use Rattle.reel_writer.specs.Damage.{IsRecordedFile}
use Rattle.reel_writer.specs.inside.Ahead.{AreRead}
use Rattle.reel_writer.proofs.Once.{once_back, once_from}
use Rattle.reel_writer.proofs.ReadCalls.{made_none, made_along}
use Rattle.reel_writer.proofs.Rooms.{put_back}
use Rattle.reel_writer.proofs.ahead.Ahead.hash_until.Goals as goal

pub loop-init : goal.loop-init
loop-init g c = record {
  reads = reads_none;
  on = made_none (IsRecordedFile c.args.job.now c.args.view.now) (g.D.Disk.state c.args.disk.now).calls;
  rooms = c.requires.rooms;
  once = λ before sofar. sofar;
  same = refl;
  faults = refl;
}

pub read_beside-requires-clause-rooms : goal.read_beside-requires-clause-rooms
read_beside-requires-clause-rooms g c = subst (AreRead c.args.job.now g.D.Disk.tells (g.D.Disk.state c.loop.disk)) (sym c.deref_mut.ensures.value) c.loop.invariant.rooms

pub returns-in_err-self-clause-on : goal.returns-in_err-self-clause-on
returns-in_err-self-clause-on g c = made_along (IsRecordedFile c.args.job.now c.args.view.now) _ _ _ c.loop.invariant.on c.read_beside.ensures.on

pub returns-in_ok-self-clause-on : goal.returns-in_ok-self-clause-on
returns-in_ok-self-clause-on g c = made_along (IsRecordedFile c.args.job.now c.args.view.now) _ _ _ c.loop.invariant.on c.read_beside.ensures.on

-- no file is read twice
pub returns-in_err-self-clause-once : goal.returns-in_err-self-clause-once
returns-in_err-self-clause-once g c before sofar =
    let held = c.loop.invariant.once before sofar in
    let most = held.within in
    let within = c.requires.within in
    let ready = once_from c.args.job.now c.args.i c.loop.self.next before (g.D.Disk.state c.loop.disk).calls c.loop.self.rooms.items c.deref_mut.result.now c.max-from.result c.deref_mut.ensures.value (omega (arith, c.max-from.ensures)) (omega (arith, c.max-from.ensures, most, within)) held in
    MatchResult-from_err _ _ _ c.from_residual.ensures.0 (λ fault. c.in_err-self.ensures.once c.args.i before (omega (arith, c.max-from.ensures)) ready)

pub returns-in_ok-self-clause-once : goal.returns-in_ok-self-clause-once
returns-in_ok-self-clause-once g c before sofar =
    let held = c.loop.invariant.once before sofar in
    let most = held.within in
    let within = c.requires.within in
    let ready = once_from c.args.job.now c.args.i c.loop.self.next before (g.D.Disk.state c.loop.disk).calls c.loop.self.rooms.items c.deref_mut.result.now c.max-from.result c.deref_mut.ensures.value (omega (arith, c.max-from.ensures)) (omega (arith, c.max-from.ensures, most, within)) held in
    once_back c.args.job.now c.args.i c.in_ok-self.field-0 before (g.D.Disk.state c.read_beside.new.disk).calls c.read_beside.new.rooms _ _ (omega (arith, c.read_beside.auto.rooms, c.deref_mut.ensures.len))
    (c.in_ok-self.ensures.once c.args.i before (omega (arith, c.max-from.ensures)) ready)

pub loop-preserved : goal.loop-preserved
loop-preserved g c = record {
  reads = reads_along c.loop.invariant.reads c.read_beside.ensures.reads;
  on = made_along (IsRecordedFile c.args.job.now c.args.view.now) _ _ _ c.loop.invariant.on c.read_beside.ensures.on;
  rooms = put_back c.args.job.now g.D.Disk.tells (g.D.Disk.state c.read_beside.new.disk) c.read_beside.new.rooms _ _ (omega (arith, c.read_beside.auto.rooms, c.deref_mut.ensures.len)) c.in_ok-self.ensures.rooms;
  once = λ before sofar.
      let held = c.loop.invariant.once before sofar in
      let most = held.within in
      let within = c.requires.within in
      let ready = once_from c.args.job.now c.args.i c.loop.self.next before (g.D.Disk.state c.loop.disk).calls c.loop.self.rooms.items c.deref_mut.result.now c.max-from.result c.deref_mut.ensures.value (omega (arith, c.max-from.ensures)) (omega (arith, c.max-from.ensures, most, within)) held in
      once_back c.args.job.now c.args.i c.in_ok-self.field-0 before (g.D.Disk.state c.read_beside.new.disk).calls c.read_beside.new.rooms _ _ (omega (arith, c.read_beside.auto.rooms, c.deref_mut.ensures.len))
      (c.in_ok-self.ensures.once c.args.i before (omega (arith, c.max-from.ensures)) ready);
  same = search rules;
  faults = search rules;
}
