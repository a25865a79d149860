-- The row's lines are those of its cells.
use Rattle.std.proofs.Common.{List, Option, subst, sym}
use Rattle.reel_qc.specs.declared.sheet.boxes.Boxes.{Boxes}
use Rattle.reel_qc.specs.inside.Boxes.{HasPictures, row_frames}
use Rattle.reel_qc.proofs.sheet.draw_row.Goals as goal

pub draw_cells-requires-clause-pictures : goal.draw_cells-requires-clause-pictures
draw_cells-requires-clause-pictures g c =
    let job = c.args.shown.now.job.now in
    let has = subst (λ (cells : List (Option Boxes)). HasPictures job c.args.shown.now.view.now g.D.Disk.tells (row_frames job c.args.row) (g.D.Disk.state c.args.disk.now) (g.D.Disk.state c.load_row.new.disk) cells)
    (sym c.deref.ensures.value) c.in_ok-cells.ensures.pictures in
    (has.pictures, has.are)

pub returns-clause-drawn : goal.returns-clause-drawn
returns-clause-drawn g c =
    let job = c.args.shown.now.job.now in
    let has = subst (λ (cells : List (Option Boxes)). HasPictures job c.args.shown.now.view.now g.D.Disk.tells (row_frames job c.args.row) (g.D.Disk.state c.args.disk.now) (g.D.Disk.state c.load_row.new.disk) cells)
    (sym c.deref.ensures.value) c.in_ok-cells.ensures.pictures in
    record { pictures = has.pictures; shown = has.shown; drawn = c.in_ok-draw_cells.ensures has.pictures has.are }
