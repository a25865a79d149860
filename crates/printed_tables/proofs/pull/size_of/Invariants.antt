use Rattle.std.proofs.Common.{◌≡◌, ◌≤◌, ◌*◌, take}
use Rattle.std.specs.List.{sum_by}
use Rattle.printed_tables.specs.Pull.{size_of}
use Rattle.printed_tables.proofs.pull.size_of.Given as goal

-- the frames of the first ranges
abbrev pub invariant-loop-range : goal.invariant-loop-range
invariant-loop-range l = record {
  sum : l.size ≡ sum_by size_of (take l.range-index l.ranges);
  most : l.size ≤ l.range-index * 4294967296;
}
