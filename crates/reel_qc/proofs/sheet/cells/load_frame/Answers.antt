-- An acknowledged frame's file is read, and no other.
use Rattle.std.proofs.Common.{◌∙◌, List, ℕ, subst, sym}
use Rattle.reel_qc.specs.inside.Boxes.{HasPicture}
use Rattle.reel_qc.specs.Sheet.{whole_picture}
use Rattle.reel_qc.proofs.Pictures.{cell_hidden, cell_shown}
use Rattle.reel_qc.proofs.sheet.cells.load_frame.Goals as goal

pub returns-then-not-is_acked-clause-cell : goal.returns-then-not-is_acked-clause-cell
returns-then-not-is_acked-clause-cell g c =
    cell_hidden c.args.job.now c.args.view.now g.D.Disk.tells c.args.i (g.D.Disk.state c.args.disk.now) (sym c.is_acked.ensures ∙ c.if-not-is_acked.true)

pub returns-clause-cell : goal.returns-clause-cell
returns-clause-cell g c =
    let read = c.in_ok-read_frame.ensures in
    cell_shown c.args.job.now c.args.view.now g.D.Disk.tells c.args.i (g.D.Disk.state c.args.disk.now) (g.D.Disk.state c.read_frame.new.disk) c.read_frame.new.buffers.words.items c.in_ok-cell.cell
    (sym c.is_acked.ensures ∙ c.if-not-is_acked.false) read.words read.calls
    (subst (λ (l : List ℕ). HasPicture c.args.job.now (whole_picture c.args.job.now l) c.in_ok-cell.cell) c.deref.ensures.value c.in_ok-cell.ensures)
