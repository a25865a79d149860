-- A picture that is short is none.
use Rattle.std.proofs.Common.{◌<◌, length, subst}
use Rattle.reel_qc.proofs.Pictures.{short_picture}
use Rattle.reel_qc.proofs.sheet.cells.sums_of.Goals as goal

pub returns-then-words-pixels_of : goal.returns-then-words-pixels_of
returns-then-words-pixels_of c =
    short_picture c.args.job.now c.args.words.now (subst (λ n. length c.args.words.now < n) c.pixels_of.ensures.count c.if-words-pixels_of.true)
