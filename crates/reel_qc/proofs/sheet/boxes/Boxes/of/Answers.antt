-- One line after another.
use Rattle.std.proofs.Common.{arith}
use Rattle.reel_qc.proofs.Adding.{all_lines, first_line}
use Rattle.reel_qc.proofs.sheet.boxes.Boxes.of.Goals as goal

pub loop-y-init : goal.loop-y-init
loop-y-init c =
    first_line c.args.words.now c.args.width c.args.height c.boxes_of.result c.boxes_of-2.result c.in_ok-boxes.boxes c.boxes_of.ensures.boxes c.boxes_of-2.ensures.boxes
    (c.in_ok-boxes.ensures c.args.words.now c.args.width)

pub returns : goal.returns
returns c = all_lines c.args.words.now c.args.width c.args.height c.loop-y.y c.loop-y.boxes (omega (arith, c.loop-y-test.false, c.loop-y.auto.y-end)) c.loop-y.invariant
