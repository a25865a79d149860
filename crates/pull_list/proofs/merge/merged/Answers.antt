-- The pass comes to its pure function.
use Rattle.std.proofs.Common.{◌≡◌, ◌++◌, ◌∙◌, [], List, sym, ap, subst, drop}
use Rattle.std.proofs.lemmas.List.{drop_all}
use Rattle.pull_list.specs.declared.range.PullRange.{PullRange}
use Rattle.pull_list.specs.Pull.{HoldsIn, AreRangesOf}
use Rattle.pull_list.proofs.Merging.{merge_on, pass_of}
use Rattle.pull_list.proofs.merge.merged.Goals as goal

pub returns : goal.returns
returns c =
    let rest = c.in-Some.rest.now in
    let none : drop c.loop-span.span-index rest ≡ [] = drop_all c.loop-span.span-index rest c.loop-span-test.false in
    let built = c.in_ok-push-2.ensures.items ∙ sym (ap (λ (l : List PullRange). c.loop-span.ranges.items ++ merge_on c.loop-span.current l) none) ∙ c.loop-span.invariant in
    subst (AreRangesOf (HoldsIn c.args.spans.now)) (sym built) (pass_of c.args.spans.now c.in-Some.first.now rest c.in-Some.ensures.cases.0 c.requires)
