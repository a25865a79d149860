-- A place without a cell reads nothing.
use Rattle.std.proofs.Common.{◌∷◌, [], None, Option, ℕ, subst, sym}
use Rattle.reel_qc.specs.inside.Boxes.{HasPictures, place_frames}
use Rattle.reel_qc.proofs.Pictures.{cell_none}
use Rattle.reel_qc.proofs.sheet.cells.load_cell.Goals as goal

pub returns-in-None-clause-cell : goal.returns-in-None-clause-cell
returns-in-None-clause-cell g c =
    let state = g.D.Disk.state c.args.disk.now in
    subst (λ (o : Option ℕ). HasPictures c.args.job.now c.args.view.now g.D.Disk.tells (place_frames o) state state (None ∷ [])) (sym c.in-None.is)
    (cell_none c.args.job.now c.args.view.now g.D.Disk.tells state)
