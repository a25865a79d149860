use Rattle.std.proofs.Common.{◌/◌, ◌%◌, ℕ, List, Option, None, get_or, map}
use Rattle.std.specs.List.{range_with_len}
use Rattle.reel_qc.specs.inside.Boxes.{AreCells, IsDrawn}
use Rattle.reel_qc.specs.Sheet.{box_colour, cell_height, cell_width}
use Rattle.reel_qc.proofs.sheet.drawing.draw_line.Given as goal

-- the pixels before x are drawn
abbrev pub invariant-loop-x : goal.invariant-loop-x
invariant-loop-x g l = (pictures : List (Option (List ℕ))) → AreCells l.job pictures l.cells
    → IsDrawn l.tone.table (map (λ x. box_colour l.job (get_or pictures (x / cell_width l.job) None) (x % cell_width l.job) (l.y % cell_height l.job)) (range_with_len 0 l.x))
    l.fn.drawing.bytes.items l.drawing.bytes.items l.fn.drawing.greatest l.drawing.greatest
