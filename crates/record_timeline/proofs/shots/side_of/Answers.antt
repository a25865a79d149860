-- The side is that of the line's source frame.
use Rattle.std.proofs.Common.{◌≡◌, ◌-◌, rules}
use Rattle.std.specs.Prelude.{pos}
use Rattle.speed_map.specs.Speeds.{source_offset_of}
use Rattle.record_timeline.proofs.shots.side_of.Goals as goal
use Rattle.record_timeline.proofs.shots.side_of.Goals.{in-Some, in-None}

pub returns : goal.returns
returns c = elim c.match-e.branch [
  | in-None w ↦ (let far : w.from-offset.result ≡ pos (c.args.n - c.args.e.now.rec_in) = w.from-offset.ensures in search rules)
  | in-Some w ↦ (let far : w.source_offset-offset.result ≡ source_offset_of c.args.rate _ (c.args.n - c.args.e.now.rec_in) = w.source_offset-offset.ensures in search rules)
]
