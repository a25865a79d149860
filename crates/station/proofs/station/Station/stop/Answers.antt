use Rattle.std.proofs.Common.{rules, refl, sym, ◌∙◌, ap}
use Rattle.render_board.specs.Board.{Log}
use Rattle.render_board.specs.declared.step.Why.TheVariants.{Source, Memory, Changed}
use Rattle.station.specs.Station.{StationView}
use Rattle.station.proofs.Needing.{needed_stopped}
use Rattle.station.proofs.StationKeeps.{stopped_as}
use Rattle.station.proofs.station.Station.stop.Goals as goal

pub invariant_of-self : goal.invariant_of-self
invariant_of-self g c =
    let s = c.self.inside in
    let v : StationView _ = record { reel = s.reel; log = s.board; totals = record { source = s.totals.source.total; disk = s.totals.disk.total; memory = s.totals.memory.total; changed = s.totals.changed.total } } in (
      stopped_as g.N.Work.job g.N.Work.files g.N.Start.start g.D.Disk.tells g.D.Disk.state v c.args.worker c.self.invariant.0
          c.args.why Source c.stop.new.self c.add.new.self.total s.totals.disk.total s.totals.memory.total s.totals.changed.total
          (search rules) (search rules) c.requires.why c.in-Source.is c.stop.ensures (search rules) refl refl refl,
      ap (λ (l : Log). l.workers) c.stop.ensures ∙ c.self.invariant.1,
      c.self.invariant.2,
      (ap (λ (l : Log). l.low) c.stop.ensures ∙ c.self.invariant.3.0, ap (λ (l : Log). l.high) c.stop.ensures ∙ c.self.invariant.3.1),
      c.self.invariant.4,
      c.self.invariant.5 ∙ sym (needed_stopped g.N.Work.job s.board c.stop.new.self c.args.worker _ c.stop.ensures),
    )

pub invariant_of-self-in-Memory : goal.invariant_of-self-in-Memory
invariant_of-self-in-Memory g c =
    let s = c.self.inside in
    let v : StationView _ = record { reel = s.reel; log = s.board; totals = record { source = s.totals.source.total; disk = s.totals.disk.total; memory = s.totals.memory.total; changed = s.totals.changed.total } } in (
      stopped_as g.N.Work.job g.N.Work.files g.N.Start.start g.D.Disk.tells g.D.Disk.state v c.args.worker c.self.invariant.0
          c.args.why Memory c.stop.new.self s.totals.source.total s.totals.disk.total c.add-in-Memory.new.self.total s.totals.changed.total
          (search rules) (search rules) c.requires.why c.in-Memory.is c.stop.ensures refl refl (search rules) refl,
      ap (λ (l : Log). l.workers) c.stop.ensures ∙ c.self.invariant.1,
      c.self.invariant.2,
      (ap (λ (l : Log). l.low) c.stop.ensures ∙ c.self.invariant.3.0, ap (λ (l : Log). l.high) c.stop.ensures ∙ c.self.invariant.3.1),
      c.self.invariant.4,
      c.self.invariant.5 ∙ sym (needed_stopped g.N.Work.job s.board c.stop.new.self c.args.worker _ c.stop.ensures),
    )

pub invariant_of-self-in-Changed : goal.invariant_of-self-in-Changed
invariant_of-self-in-Changed g c =
    let s = c.self.inside in
    let v : StationView _ = record { reel = s.reel; log = s.board; totals = record { source = s.totals.source.total; disk = s.totals.disk.total; memory = s.totals.memory.total; changed = s.totals.changed.total } } in (
      stopped_as g.N.Work.job g.N.Work.files g.N.Start.start g.D.Disk.tells g.D.Disk.state v c.args.worker c.self.invariant.0
          c.args.why (Changed _ _ _) c.stop.new.self s.totals.source.total s.totals.disk.total s.totals.memory.total c.add-in-Changed.new.self.total
          (search rules) (search rules) c.requires.why c.in-Changed.is c.stop.ensures refl refl refl (search rules),
      ap (λ (l : Log). l.workers) c.stop.ensures ∙ c.self.invariant.1,
      c.self.invariant.2,
      (ap (λ (l : Log). l.low) c.stop.ensures ∙ c.self.invariant.3.0, ap (λ (l : Log). l.high) c.stop.ensures ∙ c.self.invariant.3.1),
      c.self.invariant.4,
      c.self.invariant.5 ∙ sym (needed_stopped g.N.Work.job s.board c.stop.new.self c.args.worker _ c.stop.ensures),
    )

pub returns-in-Memory-clause-step : goal.returns-in-Memory-clause-step
returns-in-Memory-clause-step g c = search rules

pub returns-in-Memory-clause-marks : goal.returns-in-Memory-clause-marks
returns-in-Memory-clause-marks g c = search rules
