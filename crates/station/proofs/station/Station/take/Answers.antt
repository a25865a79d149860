use Rattle.std.proofs.Common.{arith, sym}
use Rattle.render_board.proofs.Holding.{claim_takes, least_free_is}
use Rattle.station.proofs.station.Station.take.Goals as goal

-- a frame that is taken is one of the reel's
pub returns-in-Take-clause-within : goal.returns-in-Take-clause-within
returns-in-Take-clause-within g c =
    let log = c.args.self.now.log in
    let is = least_free_is log c.in-Take.frame (claim_takes log c.in-Take.frame (sym c.in-Take.ensures.answer)).1 in
    let size = c.workers.ensures.kept.size in
    omega (arith, is.1, size)
