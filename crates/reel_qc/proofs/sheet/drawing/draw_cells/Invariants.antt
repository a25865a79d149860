use Rattle.std.proofs.Common.{ℕ, List, Option, flat_map}
use Rattle.std.specs.List.{range_with_len}
use Rattle.reel_qc.specs.inside.Boxes.{AreCells, IsDrawn, pictured_line}
use Rattle.reel_qc.proofs.sheet.drawing.draw_cells.Given as goal

-- the lines above v are drawn
abbrev pub invariant-loop-v : goal.invariant-loop-v
invariant-loop-v g l = (pictures : List (Option (List ℕ))) → AreCells l.job pictures l.cells
    → IsDrawn l.tone.table (flat_map (pictured_line l.job pictures) (range_with_len l.first l.v))
    l.fn.drawing.bytes.items l.drawing.bytes.items l.fn.drawing.greatest l.drawing.greatest
