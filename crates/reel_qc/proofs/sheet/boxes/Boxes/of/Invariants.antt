use Rattle.std.proofs.Common.{◌*◌}
use Rattle.reel_qc.specs.inside.Boxes.{HasSums}
use Rattle.reel_qc.specs.Sheet.{boxes_of}
use Rattle.reel_qc.proofs.sheet.boxes.Boxes.of.Given as goal

-- the lines above y are added
abbrev pub invariant-loop-y : goal.invariant-loop-y
invariant-loop-y l = HasSums l.words l.width (l.y * l.width) (boxes_of l.width) (boxes_of l.height) l.boxes
