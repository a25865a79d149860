use Rattle.std.proofs.Common.{◌≡◌, take}
use Rattle.std.specs.List.{flat_map}
use Rattle.printed_tables.specs.Pull.{line_at}
use Rattle.printed_tables.proofs.pull.pull_of.Given as goal

-- the lines of the first ranges
abbrev pub invariant-loop-range : goal.invariant-loop-range
invariant-loop-range l = l.text.items ≡ flat_map (line_at l.job.parts.project.rate l.job.parts.reels) (take l.range-index l.ranges)
