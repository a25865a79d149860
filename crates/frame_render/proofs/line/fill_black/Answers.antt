use Rattle.std.proofs.Common.{rules}
use Rattle.frame_render.proofs.Lines.{black_line}
use Rattle.frame_render.proofs.line.fill_black.Goals as goal

pub returns : goal.returns
returns c = black_line c.args.job.now c.fill_band.new.out _ _ c.fill_band.ensures c.requires.room (search rules)
