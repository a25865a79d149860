use Rattle.std.proofs.Common.{◌≡◌, ◌≤◌, length, map, true}
use Rattle.std.specs.List.{range_with_len}
use Rattle.reel_disk.specs.Disk.{view_of}
use Rattle.reel_disk.specs.State.{OnlyReads}
use Rattle.reel_qc.specs.Table.{acked_of}
use Rattle.reel_qc.specs.inside.Table.{HasRows}
use Rattle.reel_qc.proofs.table.put_rows.Given as goal

-- the lines of the frames below i
abbrev pub invariant-loop-i : goal.invariant-loop-i
invariant-loop-i g l = record {
  reads : OnlyReads g.D.Disk.tells (g.D.Disk.state l.fn.disk) (g.D.Disk.state l.disk);
  rows : HasRows (map (λ p. p.kind) l.counting.probes.now) l.job (g.D.Disk.tells ≡ true) (view_of (g.D.Disk.state l.fn.disk).history) (acked_of l.view (range_with_len 0 l.i))
      (g.D.Disk.state l.fn.disk).calls (g.D.Disk.state l.disk).calls l.fn.text.items l.text.items l.frames;
  few : l.frames ≤ l.i;
  piece : length l.buffers.piece.items ≡ 65536;
  room : length l.buffers.words.items ≡ length l.fn.buffers.words.items;
  same : (g.D.Disk.state l.disk).loans ≡ (g.D.Disk.state l.fn.disk).loans;
  faults : (g.D.Disk.state l.disk).faults ≡ (g.D.Disk.state l.fn.disk).faults;
}
