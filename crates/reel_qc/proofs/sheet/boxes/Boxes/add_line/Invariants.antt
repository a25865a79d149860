use Rattle.std.proofs.Common.{◌+◌, ◌*◌}
use Rattle.reel_qc.specs.inside.Boxes.{HasSums, run_start}
use Rattle.reel_qc.specs.Sheet.{boxes_of}
use Rattle.reel_qc.proofs.sheet.boxes.Boxes.add_line.Given as goal

-- the columns before u are added
abbrev pub invariant-loop-u : goal.invariant-loop-u
invariant-loop-u l = HasSums l.words l.width (l.y * l.width + run_start l.width l.u) (boxes_of l.width) (boxes_of l.height) l.self
