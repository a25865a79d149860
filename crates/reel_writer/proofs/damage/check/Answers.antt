use Rattle.reel_disk.specs.Disk.{view_of}
use Rattle.reel_writer.specs.Damage.{IsRecordedFile}
use Rattle.reel_writer.proofs.Once.{once_none}
use Rattle.reel_writer.proofs.ReadCalls.{made_none}
use Rattle.reel_writer.proofs.Checking.{sound_intact}
use Rattle.reel_writer.proofs.damage.check.Goals as goal

pub returns-in_default-clause-intact : goal.returns-in_default-clause-intact
returns-in_default-clause-intact g c told world = sound_intact c.args.job.now c.args.view.now (view_of (g.D.Disk.state c.args.disk.now).history) world

pub returns-clause-intact : goal.returns-clause-intact
returns-clause-intact g c told world = sound_intact c.args.job.now c.args.view.now (view_of (g.D.Disk.state c.args.disk.now).history) world

-- no file was read
pub returns-in_default-clause-read : goal.returns-in_default-clause-read
returns-in_default-clause-read g c = record { on = made_none (IsRecordedFile c.args.job.now c.args.view.now) _; once = once_none _; says = tt }

pub check_all-requires-clause-once : goal.check_all-requires-clause-once
check_all-requires-clause-once g c = c.new-ahead.ensures.once c.args.job.now (g.D.Disk.state c.args.disk.now).calls
