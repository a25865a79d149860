-- A cell has at least one line, and at most 256.
use Rattle.std.proofs.Common.{arith}
use Rattle.reel_qc.proofs.Begins.{most_is}
use Rattle.reel_qc.proofs.sheet.cells.most_cells.Goals as goal

pub returns-clause-some : goal.returns-clause-some
returns-clause-some c =
    let planned = c.recall.ensures.job.planned in
    (most_is c.boxes_of.result (omega (arith, planned.some_height, c.height.ensures, c.boxes_of.ensures.boxes)) c.boxes_of.ensures.most).0

pub returns-clause-few : goal.returns-clause-few
returns-clause-few c =
    let planned = c.recall.ensures.job.planned in
    (most_is c.boxes_of.result (omega (arith, planned.some_height, c.height.ensures, c.boxes_of.ensures.boxes)) c.boxes_of.ensures.most).1
