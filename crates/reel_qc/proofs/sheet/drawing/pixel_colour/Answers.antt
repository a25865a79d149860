-- The pixel's cell has its picture.
use Rattle.std.proofs.Common.{◌∙◌, ◌/◌, ◌%◌, ap, get_or, None}
use Rattle.reel_qc.specs.Sheet.{box_colour, boxes_of}
use Rattle.reel_qc.proofs.Drawn.{column_in, picture_of}
use Rattle.reel_qc.proofs.sheet.drawing.pixel_colour.Goals as goal

pub cell_colour-requires-clause-picture : goal.cell_colour-requires-clause-picture
cell_colour-requires-clause-picture c =
    let columns = c.boxes_of-columns.ensures.boxes ∙ ap boxes_of c.width.ensures in
    let within = column_in c.args.job.now c.args.x c.boxes_of-columns.result columns c.recall.ensures.job.planned.some_width c.requires.column in (
      get_or c.requires.pictures.0 (c.args.x / c.boxes_of-columns.result) None,
      picture_of c.args.job.now c.requires.pictures.0 c.args.cells.now c.index-cells-x.result (c.args.x / c.boxes_of-columns.result) within c.requires.cells c.index-cells-x.is c.requires.pictures.1,
    )

pub returns : goal.returns
returns c pictures are =
    let columns = c.boxes_of-columns.ensures.boxes ∙ ap boxes_of c.width.ensures in
    let lines = c.boxes_of-lines.ensures.boxes ∙ ap boxes_of c.height.ensures in
    let within = column_in c.args.job.now c.args.x c.boxes_of-columns.result columns c.recall.ensures.job.planned.some_width c.requires.column in
    c.cell_colour.ensures (get_or pictures (c.args.x / c.boxes_of-columns.result) None)
    (picture_of c.args.job.now pictures c.args.cells.now c.index-cells-x.result (c.args.x / c.boxes_of-columns.result) within c.requires.cells c.index-cells-x.is are)
    ∙ (λ i. box_colour c.args.job.now (get_or pictures (c.args.x / columns i) None) (c.args.x % columns i) (c.args.y % lines i))
