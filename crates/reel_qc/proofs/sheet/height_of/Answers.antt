-- A product of some lines is some.
use Rattle.reel_qc.proofs.SheetLaws.{product_some}
use Rattle.reel_qc.proofs.sheet.height_of.Goals as goal

pub returns-clause-some : goal.returns-clause-some
returns-clause-some c = product_some c.args.rows c.args.cell c.requires.some_rows c.requires.some_lines
