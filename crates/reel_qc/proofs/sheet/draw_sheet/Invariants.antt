use Rattle.std.proofs.Common.{◌≡◌, ◌*◌, length, take, flat_map}
use Rattle.std.specs.List.{range_with_len}
use Rattle.dpx_header.specs.Writing.{header_of}
use Rattle.reel_disk.specs.State.{OnlyReads}
use Rattle.reel_qc.specs.inside.Boxes.{HasDrawn}
use Rattle.reel_qc.specs.Sheet.{cell_frames, cell_height, line_colours, sheet_head}
use Rattle.reel_qc.proofs.sheet.draw_sheet.Given as goal

-- the rows above are drawn
abbrev pub invariant-loop-row : goal.invariant-loop-row
invariant-loop-row g l = record {
  reads : OnlyReads g.D.Disk.tells (g.D.Disk.state l.fn.disk) (g.D.Disk.state l.disk);
  drawn : HasDrawn l.tone.table l.job l.view g.D.Disk.tells (take (l.row * 8) (cell_frames l.job)) (λ pictures. flat_map (line_colours l.job pictures) (range_with_len 0 (l.row * cell_height l.job)))
      (g.D.Disk.state l.fn.disk) (g.D.Disk.state l.disk) (header_of (sheet_head l.job)) l.drawing.bytes.items 0 l.drawing.greatest;
  piece : length l.buffers.piece.items ≡ 65536;
  same : (g.D.Disk.state l.disk).loans ≡ (g.D.Disk.state l.fn.disk).loans;
  faults : (g.D.Disk.state l.disk).faults ≡ (g.D.Disk.state l.fn.disk).faults;
}
