use Rattle.std.proofs.Common.{◌≡◌, ◌≤◌, length, map, true}
use Rattle.std.specs.Prelude.{count_by, is_some}
use Rattle.std.specs.List.{range_with_len}
use Rattle.reel_disk.specs.Disk.{view_of}
use Rattle.reel_disk.specs.State.{OnlyReads}
use Rattle.resume_ledger.specs.Look.{hash_at}
use Rattle.reel_writer.specs.inside.Ahead.{AreRead, IsOnceSoFar}
use Rattle.reel_writer.specs.Damage.{AreAsKept, AreIntact, IsRecordedFile}
use Rattle.reel_writer.specs.Reads.{MakesOnly}
use Rattle.reel_writer.proofs.damage.check_all.Given as goal

-- the frames below i are intact, and their records are counted
abbrev pub invariant-loop-i : goal.invariant-loop-i
invariant-loop-i g l = record {
  reads : OnlyReads g.D.Disk.tells (g.D.Disk.state l.fn.disk) (g.D.Disk.state l.disk);
  intact : g.D.Disk.tells ≡ true → AreIntact l.job l.view (view_of (g.D.Disk.state l.fn.disk).history) l.i;
  counted : l.records ≡ count_by is_some (map (hash_at l.view) (range_with_len 0 l.i));
  few : l.records ≤ l.i;
  on : MakesOnly (IsRecordedFile l.job l.view) (g.D.Disk.state l.fn.disk).calls (g.D.Disk.state l.disk).calls;
  kept : AreAsKept l.job l.view l.i (g.D.Disk.state l.disk).calls;
  ahead : AreRead l.job g.D.Disk.tells (g.D.Disk.state l.disk) l.ahead.rooms.items;
  once : IsOnceSoFar l.job l.i l.ahead.next (g.D.Disk.state l.fn.disk).calls (g.D.Disk.state l.disk).calls l.ahead.rooms.items;
  piece : length l.piece ≡ 65536;
  same : (g.D.Disk.state l.disk).loans ≡ (g.D.Disk.state l.fn.disk).loans;
  faults : (g.D.Disk.state l.disk).faults ≡ (g.D.Disk.state l.fn.disk).faults;
}
