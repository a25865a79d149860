-- One line after another.
use Rattle.std.proofs.Common.{◌∙◌, ap, arith, refl}
use Rattle.reel_qc.specs.Sheet.{boxes_of}
use Rattle.reel_qc.proofs.Drawn.{drawn_none, line_more, row_whole}
use Rattle.reel_qc.proofs.sheet.drawing.draw_cells.Goals as goal

pub loop-v-init : goal.loop-v-init
loop-v-init g c pictures are = drawn_none c.args.tone.now.table _ _

pub loop-v-preserved : goal.loop-v-preserved
loop-v-preserved g c pictures are =
    line_more c.args.tone.now.table c.args.job.now pictures _ c.loop-v.v _ _ _ _ _ _ (c.loop-v.invariant pictures are) (c.in_ok-draw_line.ensures pictures are)

pub returns : goal.returns
returns g c pictures are =
    row_whole c.args.tone.now.table c.args.job.now pictures c.args.row _ c.boxes_of-lines.result c.loop-v.v _ _ _ _ refl (omega (arith, c.loop-v-test.false, c.loop-v.auto.v-end)) (c.boxes_of-lines.ensures.boxes ∙ ap boxes_of c.height.ensures)
    (c.loop-v.invariant pictures are)
