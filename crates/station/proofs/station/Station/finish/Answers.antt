use Rattle.std.proofs.Common.{◌≡◌, true, rules, sym, ◌∙◌, ap, subst}
use Rattle.reel_writer.specs.Reel.{IsSafeFinish}
use Rattle.render_board.specs.Board.{Log}
use Rattle.render_board.proofs.Holding.{held_isnt_done}
use Rattle.station.specs.Station.{StationView}
use Rattle.reel_disk.proofs.Writing.{writing_then, writing_wider}
use Rattle.station.proofs.Needing.{needed_finished, needed_stopped}
use Rattle.station.proofs.StationKeeps.{finished_as, failed_as, held_of_run}
use Rattle.station.proofs.station.Station.finish.Goals as goal

pub finish-requires-clause-fresh : goal.finish-requires-clause-fresh
finish-requires-clause-fresh g c = c.self.invariant.0.gates c.args.frame.now.index ∙ held_isnt_done c.self.inside.board c.args.worker c.args.frame.now.index c.self.invariant.0.legal (search rules)

pub invariant_of-self : goal.invariant_of-self
invariant_of-self g c =
    let s = c.self.inside in
    let v : StationView _ = record { reel = s.reel; log = s.board; totals = record { source = s.totals.source.total; disk = s.totals.disk.total; memory = s.totals.memory.total; changed = s.totals.changed.total } } in (
      finished_as g.N.Work.job g.N.Work.files g.N.Start.start g.D.Disk.tells g.D.Disk.state v c.args.worker c.self.invariant.0
          c.args.frame.now.index c.finish.new.self c.finished.new.self (search rules) (search rules) (search rules) (λ told. (c.finish.ensures.safe told).run) (λ told. (c.finish.ensures.safe told).none_lost) (λ told. (c.finish.ensures.safe told).others) (λ told. (c.finish.ensures.safe told).spares)
          (c.in-Ok.ensures.finished) (search rules) c.in-Ok.ensures.acked (c.in-Ok.ensures.disk.counts.steady (λ is. cc)),
      ap (λ (l : Log). l.workers) c.finished.ensures ∙ c.self.invariant.1,
      c.finish.ensures.disk.lent ∙ c.self.invariant.2,
      (ap (λ (l : Log). l.low) c.finished.ensures ∙ c.self.invariant.3.0, ap (λ (l : Log). l.high) c.finished.ensures ∙ c.self.invariant.3.1),
      writing_then c.self.invariant.4 (writing_wider (held_of_run g.N.Work.job s.board _ _ c.args.worker c.args.frame.now.index c.self.invariant.3.0 c.self.invariant.3.1 c.self.invariant.0.legal (search rules)) c.finish.ensures.own),
      c.self.invariant.5 ∙ sym (needed_finished g.N.Work.job s.board c.finished.new.self c.args.worker c.index-index.result c.finished.ensures),
    )

pub invariant_of-self-in-Err : goal.invariant_of-self-in-Err
invariant_of-self-in-Err g c =
    let s = c.self.inside in
    let v : StationView _ = record { reel = s.reel; log = s.board; totals = record { source = s.totals.source.total; disk = s.totals.disk.total; memory = s.totals.memory.total; changed = s.totals.changed.total } } in (
      failed_as g.N.Work.job g.N.Work.files g.N.Start.start g.D.Disk.tells g.D.Disk.state v c.args.worker c.self.invariant.0
          c.args.frame.now.index c.finish.new.self c.stop.new.self (search rules) (search rules) (search rules) (λ told. (c.finish.ensures.safe told).run) (λ told. (c.finish.ensures.safe told).none_lost) (λ told. (c.finish.ensures.safe told).others) (λ told. (c.finish.ensures.safe told).spares)
          c.add.new.self.total c.in-Err.ensures.closed c.stop.ensures (search rules) (search rules),
      ap (λ (l : Log). l.workers) c.stop.ensures ∙ c.self.invariant.1,
      c.finish.ensures.disk.lent ∙ c.self.invariant.2,
      (ap (λ (l : Log). l.low) c.stop.ensures ∙ c.self.invariant.3.0, ap (λ (l : Log). l.high) c.stop.ensures ∙ c.self.invariant.3.1),
      writing_then c.self.invariant.4 (writing_wider (held_of_run g.N.Work.job s.board _ _ c.args.worker c.args.frame.now.index c.self.invariant.3.0 c.self.invariant.3.1 c.self.invariant.0.legal (search rules)) c.finish.ensures.own),
      c.self.invariant.5 ∙ sym (needed_stopped g.N.Work.job s.board c.stop.new.self c.args.worker _ c.stop.ensures),
    )

pub returns-in-Ok-clause-safe : goal.returns-in-Ok-clause-safe
returns-in-Ok-clause-safe g c =
    subst (λ (v : StationView _). g.D.Disk.tells ≡ true → IsSafeFinish g.N.Work.job g.N.Work.files c.args.frame.now.index (g.D.Disk.state v.reel.disk).history (g.D.Disk.state c.finish.new.self.disk).history) c.self.view_is c.finish.ensures.safe

pub returns-in-Err-clause-safe : goal.returns-in-Err-clause-safe
returns-in-Err-clause-safe g c =
    subst (λ (v : StationView _). g.D.Disk.tells ≡ true → IsSafeFinish g.N.Work.job g.N.Work.files c.args.frame.now.index (g.D.Disk.state v.reel.disk).history (g.D.Disk.state c.finish.new.self.disk).history) c.self.view_is c.finish.ensures.safe

-- the worker held the frame until the disk failed
pub stop-requires-clause-running : goal.stop-requires-clause-running
stop-requires-clause-running g c = search rules

pub returns-in-Err-clause-failed : goal.returns-in-Err-clause-failed
returns-in-Err-clause-failed g c = search rules
