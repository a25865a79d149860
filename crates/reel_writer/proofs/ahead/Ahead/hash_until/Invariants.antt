use Rattle.std.proofs.Common.{◌≡◌, List}
use Rattle.reel_disk.specs.Call.{Call}
use Rattle.reel_disk.specs.State.{OnlyReads}
use Rattle.reel_writer.specs.Damage.{IsRecordedFile}
use Rattle.reel_writer.specs.Reads.{MakesOnly}
use Rattle.reel_writer.specs.inside.Ahead.{AreRead, IsOnceSoFar}
use Rattle.reel_writer.proofs.ahead.Ahead.hash_until.Given as goal

-- the folder is only read, and no file twice, and what was read ahead is its files
abbrev pub invariant-loop : goal.invariant-loop
invariant-loop g l = record {
  reads : OnlyReads g.D.Disk.tells (g.D.Disk.state l.fn.disk) (g.D.Disk.state l.disk);
  on : MakesOnly (IsRecordedFile l.job l.view) (g.D.Disk.state l.fn.disk).calls (g.D.Disk.state l.disk).calls;
  rooms : AreRead l.job g.D.Disk.tells (g.D.Disk.state l.disk) l.self.rooms.items;
  once : (before : List Call) → IsOnceSoFar l.job l.i l.fn.self.next before (g.D.Disk.state l.fn.disk).calls l.fn.self.rooms.items
      → IsOnceSoFar l.job l.i l.self.next before (g.D.Disk.state l.disk).calls l.self.rooms.items;
  same : (g.D.Disk.state l.disk).loans ≡ (g.D.Disk.state l.fn.disk).loans;
  faults : (g.D.Disk.state l.disk).faults ≡ (g.D.Disk.state l.fn.disk).faults;
}
