-- A mean is rounded, and of codes it is a code.
use Rattle.std.proofs.Common.{refl}
use Rattle.reel_qc.proofs.Adding.{mean_small}
use Rattle.reel_qc.proofs.sheet.boxes.mean_of.Goals as goal

pub returns-clause-mean : goal.returns-clause-mean
returns-clause-mean c = refl

pub returns-clause-code : goal.returns-clause-code
returns-clause-code c = mean_small c.args.sum c.args.pixels c.requires.some c.requires.sum
