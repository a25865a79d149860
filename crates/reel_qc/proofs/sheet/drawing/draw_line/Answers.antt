-- One pixel after another.
use Rattle.std.proofs.Common.{◌∙◌, ap, arith}
use Rattle.reel_qc.specs.Sheet.{boxes_of}
use Rattle.reel_qc.proofs.Drawn.{drawn_none, line_whole, pixel_more}
use Rattle.reel_qc.proofs.sheet.drawing.draw_line.Goals as goal

pub loop-x-init : goal.loop-x-init
loop-x-init g c pictures are = drawn_none c.args.tone.now.table _ _

pub loop-x-preserved : goal.loop-x-preserved
loop-x-preserved g c pictures are =
    pixel_more c.args.tone.now.table c.args.job.now pictures c.args.y c.loop-x.x _ _ _ _ _ _ (c.loop-x.invariant pictures are) (c.in_ok-draw_pixel.ensures pictures are)

pub returns : goal.returns
returns g c pictures are =
    line_whole c.args.tone.now.table c.args.job.now pictures c.args.y c.loop-x.x c.boxes_of-columns.result _ _ _ _ (omega (arith, c.loop-x-test.false, c.loop-x.auto.x-end)) (c.boxes_of-columns.ensures.boxes ∙ ap boxes_of c.width.ensures)
    (c.loop-x.invariant pictures are)
