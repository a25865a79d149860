use Rattle.std.proofs.Common.{◌≡◌, ◌*◌, ◌≤◌, length, true}
use Rattle.frame_render.specs.Frame.{frame_size}
use Rattle.reel_disk.specs.Runs.{Spares}
use Rattle.reel_disk.specs.Call.{OnlyWrites}
use Rattle.reel_disk.specs.State.{LeavesDisk}
use Rattle.run_alone.specs.inside.Run.{IsRangeFile}
use Rattle.reel_writer.specs.Reel.{IsReelRun, IsRunFile}
use Rattle.run_alone.specs.Asks.{asks_of_frames, closed_frames}
use Rattle.run_alone.specs.inside.Ran.{ArePast}
use Rattle.frame_fetch.specs.Loading.{CanLoad}
use Rattle.frame_fetch.specs.Scanned.{IsScannedAlone}
use Rattle.frame_fetch.specs.Sharing.{IsPaired, asks_of}
use Rattle.run_alone.proofs.frames.run_frames.Given as goal

-- the frames of the range below i are finished, and nothing failed
abbrev pub invariant-loop-i : goal.invariant-loop-i
invariant-loop-i g l = record {
  late : l.fn.task.range.low ≤ l.i;
  within : l.i ≤ l.fn.task.range.high;
  past : ArePast l.fn.task.range.low l.i l.fn.reel l.reel;
  asked : asks_of l.share.steps ≡ asks_of_frames g.N.Work.job (closed_frames l.fn.reel.ledger.gates l.fn.task.range.low l.i);
  paired : IsPaired ⊥ l.share.steps;
  capacity : l.share.capacity ≡ l.fn.share.capacity;
  parts : l.loader.units.parts ≡ l.fn.loader.units.parts;
  ready : CanLoad g.S.Scans.state g.N.Work.job g.N.Work.files l.fn.task.job.now 0 l.loader;
  counted : l.loader.units.amount ≡ l.loader.loads;
  few : l.loader.loads ≤ 2 * l.i;
  room : length l.room ≡ frame_size g.N.Work.job;
  run : g.D.Disk.tells ≡ true → IsReelRun g.N.Work.job g.N.Work.files (g.D.Disk.state l.fn.reel.disk).history (g.D.Disk.state l.reel.disk).history;
  spares : g.D.Disk.tells ≡ true → Spares (g.D.Disk.state l.fn.reel.disk).history (g.D.Disk.state l.reel.disk).history (IsRangeFile g.N.Work.job l.fn.task.range.low l.fn.task.range.high l.fn.reel.ledger.gates);
  own : OnlyWrites (IsRunFile g.N.Work.job l.fn.task.range.low l.fn.task.range.high) (g.D.Disk.state l.fn.reel.disk).calls (g.D.Disk.state l.reel.disk).calls;
  disk : LeavesDisk ⊥ (g.D.Disk.state l.fn.reel.disk) (g.D.Disk.state l.reel.disk);
  scan : IsScannedAlone l.loader.loads ⊥ (g.S.Scans.state l.fn.loader.scan) (g.S.Scans.state l.loader.scan);
}
