use Rattle.std.proofs.Common.{◌≡◌, ◌*◌, drop, length, take}
use Rattle.reel_disk.specs.State.{OnlyReads}
use Rattle.reel_qc.specs.inside.Boxes.{HasPictures}
use Rattle.reel_qc.specs.Sheet.{cell_frames}
use Rattle.reel_qc.proofs.sheet.cells.load_row.Given as goal

-- the cells before c
abbrev pub invariant-loop-c : goal.invariant-loop-c
invariant-loop-c g l = record {
  reads : OnlyReads g.D.Disk.tells (g.D.Disk.state l.fn.disk) (g.D.Disk.state l.disk);
  pictures : HasPictures l.job l.view g.D.Disk.tells (take l.c (drop (l.row * 8) (cell_frames l.job))) (g.D.Disk.state l.fn.disk) (g.D.Disk.state l.disk) l.cells.items;
  size : length l.cells.items ≡ l.c;
  piece : length l.buffers.piece.items ≡ 65536;
  same : (g.D.Disk.state l.disk).loans ≡ (g.D.Disk.state l.fn.disk).loans;
  faults : (g.D.Disk.state l.disk).faults ≡ (g.D.Disk.state l.fn.disk).faults;
}
