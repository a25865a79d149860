use Rattle.std.proofs.Common.{◌+◌, rules, sym, ◌∙◌, ap, subst, arith, ◌<◌}
use Rattle.conform_job.specs.Job.{JobData}
use Rattle.frame_fetch.specs.Asks.{needs_of}
use Rattle.reel_writer.specs.Reel.{frames_of}
use Rattle.render_board.specs.Board.{Log}
use Rattle.render_board.specs.declared.board.Claim.TheVariants.{Take}
use Rattle.render_board.proofs.Holding.{claim_takes, least_free_is}
use Rattle.station.specs.Station.{StationView}
use Rattle.station.proofs.Needing.{needed_claimed}
use Rattle.station.proofs.StationKeeps.{claim_workers, claim_low, claim_high, claimed_as}
use Rattle.station.proofs.station.Station.claim.Goals as goal

-- a frame that is taken is one of the reel's
pub count_needs-requires : goal.count_needs-requires
count_needs-requires g c =
    let log = c.self.inside.board in
    let is = least_free_is log c.in-Take.i (claim_takes log c.in-Take.i (sym c.in-Take.ensures.answer)).1 in
    let size = c.self.invariant.0.size in
    record { within = subst (λ (j : JobData). c.in-Take.i < frames_of j) (sym c.requires.job) (omega (arith, is.1, size)) }

pub invariant_of-self : goal.invariant_of-self
invariant_of-self g c =
    let s = c.self.inside in
    let v : StationView _ = record { reel = s.reel; log = s.board; totals = record { source = s.totals.source.total; disk = s.totals.disk.total; memory = s.totals.memory.total; changed = s.totals.changed.total } } in (
      claimed_as g.N.Work.job g.N.Work.files g.N.Start.start g.D.Disk.tells g.D.Disk.state v c.args.worker c.self.invariant.0
          c.claim-answer.result c.claim-answer.new.self (search rules) (search rules) c.claim-answer.ensures.answer c.claim-answer.ensures.log,
      ap (λ (l : Log). l.workers) c.claim-answer.ensures.log ∙ claim_workers s.board c.args.worker c.claim-answer.result ∙ c.self.invariant.1,
      c.self.invariant.2,
      (
        ap (λ (l : Log). l.low) c.claim-answer.ensures.log ∙ claim_low s.board c.args.worker c.claim-answer.result ∙ c.self.invariant.3.0,
        ap (λ (l : Log). l.high) c.claim-answer.ensures.log ∙ claim_high s.board c.args.worker c.claim-answer.result ∙ c.self.invariant.3.1,
      ),
      c.self.invariant.4,
      c.add.ensures.total ∙ ap (λ n. s.claims.total + n) (c.count_needs.ensures ∙ ap (λ (j : JobData). needs_of j c.in-Take.i) c.requires.job)
          ∙ ap (λ n. n + needs_of g.N.Work.job c.in-Take.i) c.self.invariant.5
          ∙ sym (needed_claimed g.N.Work.job s.board c.claim-answer.new.self c.args.worker (Take c.in-Take.i) c.in-Take.ensures.log),
    )
