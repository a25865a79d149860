-- The sorted spans hold the same frames.
use Rattle.std.proofs.Common.{rules, sym, subst, List}
use Rattle.std.proofs.lemmas.List.Sorted.{IsNonDecreasingBy-from_sort_by_key}
use Rattle.pull_list.specs.declared.range.PullRange.{PullRange}
use Rattle.pull_list.specs.Pull.{HoldsIn, AreRangesOf}
use Rattle.pull_list.specs.inside.Spans.{AreSorted, place_of}
use Rattle.pull_list.proofs.Sorting.{are_sorted, ranges_moved, ok_then}
use Rattle.pull_list.proofs.merge.ranges_of.Goals as goal

pub merged-requires : goal.merged-requires
merged-requires c =
    let sorted = c.sort_unstable_by_key.ensures in
    subst (AreSorted 0 0) (sym c.as_slice.ensures.value)
    (are_sorted c.args.spans.now.items c.sort_unstable_by_key.new.self.items sorted.permutation
    (IsNonDecreasingBy-from_sort_by_key place_of _ sorted.sorted (λ a r q k. search rules)) c.requires)

pub returns : goal.returns
returns c =
    ok_then c.merged.result _ _ c.merged.ensures (λ ranges is.
    ranges_moved c.args.spans.now.items c.sort_unstable_by_key.new.self.items ranges.items c.sort_unstable_by_key.ensures.permutation
    (subst (λ (l : List PullRange). AreRangesOf (HoldsIn l) ranges.items) c.as_slice.ensures.value is))
