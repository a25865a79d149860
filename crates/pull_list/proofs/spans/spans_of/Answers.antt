-- One record frame after another.
use Rattle.std.proofs.Common.{◌≡◌, ◌++◌, ◌∙◌, List, ap, arith, map}
use Rattle.conform_job.specs.Asks.{asks_at, asks_from, asks_of}
use Rattle.conform_job.specs.Keys.{keys_of_asks}
use Rattle.pull_list.specs.declared.range.PullRange.{PullRange}
use Rattle.pull_list.specs.inside.Spans.{span_at}
use Rattle.pull_list.proofs.Needed.{spans_more}
use Rattle.pull_list.proofs.spans.spans_of.Goals as goal

pub loop-i-preserved : goal.loop-i-preserved
loop-i-preserved c =
    let p = c.args.job.now.parts in
    record {
      spans = c.in_ok-put_frame.ensures.spans
          ∙ ap (λ (l : List PullRange). l ++ map (span_at p.reels c.args.margin) (keys_of_asks p.reels p.timeline.events (asks_at p.timeline c.loop-i.i))) c.loop-i.invariant.spans
          ∙ spans_more p c.args.job.now.infos c.args.margin c.loop-i.i;
      some = c.in_ok-put_frame.ensures.some;
    }

pub returns-clause-spans : goal.returns-clause-spans
unfolding asks_of
returns-clause-spans c =
    let p = c.args.job.now.parts in
    let whole : c.loop-i.i ≡ c.count-i-end.result = omega (arith, c.loop-i.auto.i-end, c.loop-i-test.false) in
    c.loop-i.invariant.spans ∙ ap (λ n. map (span_at p.reels c.args.margin) (keys_of_asks p.reels p.timeline.events (asks_from p.timeline 0 n))) (whole ∙ c.count-i-end.ensures.count)
