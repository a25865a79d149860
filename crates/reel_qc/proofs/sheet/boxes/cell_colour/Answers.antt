-- A cell with sums has a picture.
use Rattle.cf_base.specs.Rgb.{codes_of}
use Rattle.reel_qc.proofs.Adding.{cell_cases}
use Rattle.reel_qc.proofs.sheet.boxes.cell_colour.Goals as goal

pub returns-in-Some : goal.returns-in-Some
returns-in-Some c = cell_cases c.args.job.now c.args.cell.now c.in-Some.boxes (codes_of c.mean_in.result) c.args.u c.args.v c.in-Some.is c.mean_in.ensures
