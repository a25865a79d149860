-- The spans of both sides are those of what the frame asks for.
use Rattle.std.proofs.Common.{◌++◌, ◌∙◌, List, ap, subst}
use Rattle.conform_job.specs.Asks.{shot_of_frame}
use Rattle.conform_job.specs.Job.{need_at, AreMet}
use Rattle.conform_job.specs.declared.need.Need.{Need}
use Rattle.pull_list.specs.declared.range.PullRange.{PullRange}
use Rattle.pull_list.specs.inside.Spans.{spans_of_side}
use Rattle.pull_list.proofs.Needed.{has_new, has_old, on_ok, side_by_side, spans_at}
use Rattle.pull_list.proofs.spans.put_frame.Goals as goal

pub put_side-requires-clause-key : goal.put_side-requires-clause-key
put_side-requires-clause-key c =
    let job = c.args.job.now in
    rw (c.requires.entries, c.need-old.ensures.need) (has_old job.parts job.infos c.args.margin (shot_of_frame job.parts.timeline c.args.i))

pub put_side-requires-2-clause-key : goal.put_side-requires-2-clause-key
put_side-requires-2-clause-key c =
    let job = c.args.job.now in
    rw (c.requires.entries, c.need-old.ensures.need) (has_new job.parts job.infos c.args.margin (shot_of_frame job.parts.timeline c.args.i))

pub returns-clause-spans : goal.returns-clause-spans
returns-clause-spans c =
    let job = c.args.job.now in
    let need = need_at job c.args.i in
    let met = subst (λ (n : Need). AreMet (shot_of_frame job.parts.timeline c.args.i) n) c.need-old.ensures.need c.need-old.ensures.met in
    let one = rw (c.requires.entries, c.need-old.ensures.need) at c.in_ok-put_side.ensures.spans in
    let two = rw (c.requires.entries, c.need-old.ensures.need) at c.put_side-2.ensures.spans in
    on_ok c.put_side-2.result _ _ two (λ is.
    is ∙ ap (λ (l : List PullRange). l ++ spans_of_side job.parts.reels c.args.margin need.new) one
    ∙ side_by_side c.args.spans.now.items (spans_of_side job.parts.reels c.args.margin need.old) (spans_of_side job.parts.reels c.args.margin need.new) _ (spans_at job c.args.margin c.args.i met))
