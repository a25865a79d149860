use Rattle.std.proofs.Common.{◌≡◌, ◌++◌, drop}
use Rattle.pull_list.proofs.Merging.{merge_on}
use Rattle.pull_list.proofs.merge.merged.Given as goal

-- what is done and what is still to do make up the whole
abbrev pub invariant-loop-span : goal.invariant-loop-span
invariant-loop-span l = l.ranges.items ++ merge_on l.current (drop l.span-index l.rest) ≡ merge_on l.initial.current l.rest
