use Rattle.std.proofs.Common.{rules, sym, ◌∙◌, ap}
use Rattle.station.specs.Needed.{needed_by}
use Rattle.station.proofs.StationKeeps.{station_new}
use Rattle.station.proofs.station.Station.new.Goals as goal

pub invariant_of-station : goal.invariant_of-station
invariant_of-station g c = (
  station_new g.N.Work.job g.N.Work.files g.N.Start.start g.D.Disk.tells g.D.Disk.state c.args.reel c.args.board
      (record { source = c.open-source_book.result.0.total; disk = c.open-disk_book.result.0.total; memory = c.open-memory_book.result.0.total; changed = c.open-changed_book.result.0.total })
      c.requires.beginning (search rules) (search rules) (search rules) (search rules),
  c.requires.named.0,
  c.requires.disk_of.0,
  c.requires.named.1,
  c.requires.disk_of.1,
  c.open-claims_book.ensures.total ∙ sym (ap (needed_by g.N.Work.job) c.requires.beginning.first),
)
