-- The ranges of the spans are the pull list.
use Rattle.std.proofs.Common.{◌≡◌, sym, subst, List}
use Rattle.source_reels.specs.Reels.{reels_fault}
use Rattle.std.specs.Prelude.{None}
use Rattle.cf_base.specs.declared.reel.ReelEntry.{ReelEntry}
use Rattle.pull_list.specs.Pull.{IsPullList}
use Rattle.pull_list.proofs.Frames.{days_of, pull_is}
use Rattle.pull_list.proofs.pull.Goals as goal

pub returns-in-Ok-ranges_of-clause-list : goal.returns-in-Ok-ranges_of-clause-list
returns-in-Ok-ranges_of-clause-list c =
    let p = c.args.job.now.parts in
    subst (IsPullList p c.args.margin) (sym c.of.ensures) (pull_is p c.args.margin c.in-Ok.spans.items c.in-Ok-ranges_of.ranges.items c.in-Ok.ensures.spans c.in-Ok-ranges_of.ensures)

pub returns-in-Ok-ranges_of-clause-days : goal.returns-in-Ok-ranges_of-clause-days
returns-in-Ok-ranges_of-clause-days c =
    let p = c.args.job.now.parts in
    let list = subst (IsPullList p c.args.margin) (sym c.of.ensures) (pull_is p c.args.margin c.in-Ok.spans.items c.in-Ok-ranges_of.ranges.items c.in-Ok.ensures.spans c.in-Ok-ranges_of.ensures) in
    days_of p c.args.margin c.of.result c.reel_laws.ensures.none (subst (λ (l : List ReelEntry). reels_fault l ≡ None) c.reels.ensures c.entries-entries.ensures.accepted) list
