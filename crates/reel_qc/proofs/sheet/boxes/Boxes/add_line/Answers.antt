-- One run after another.
use Rattle.std.proofs.Common.{◌∙◌, arith}
use Rattle.reel_qc.proofs.Adding.{line_begins, line_ends}
use Rattle.reel_qc.proofs.sheet.boxes.Boxes.add_line.Goals as goal

pub loop-u-init : goal.loop-u-init
loop-u-init c = line_begins c.args.words.now c.args.width c.args.height c.args.y c.args.self.now c.requires.sums

pub returns : goal.returns
returns c =
    line_ends c.args.words.now c.args.width c.args.height c.loop-u.u c.args.y c.loop-u.self
    (omega (arith, c.loop-u-test.false, c.loop-u.auto.u-end) ∙ c.boxes_of-u-end.ensures.boxes) c.loop-u.invariant
