use Rattle.std.proofs.Common.{◌≡◌, flat_map}
use Rattle.std.specs.List.{range_with_len}
use Rattle.project_run.specs.Sums.{sum_line}
use Rattle.project_run.proofs.digests.sums_text.Given as goal

-- the lines of the frames below i
abbrev pub invariant-loop-i : goal.invariant-loop-i
invariant-loop-i l = l.text.items ≡ flat_map (sum_line l.job l.view) (range_with_len 0 l.i)
