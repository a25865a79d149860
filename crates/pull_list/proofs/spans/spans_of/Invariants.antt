use Rattle.std.proofs.Common.{◌≡◌, map}
use Rattle.std.specs.List.{All}
use Rattle.conform_job.specs.Asks.{asks_from}
use Rattle.conform_job.specs.Keys.{keys_of_asks}
use Rattle.pull_list.specs.inside.Spans.{IsSpan, span_at}
use Rattle.pull_list.proofs.spans.spans_of.Given as goal

-- the spans of the first record frames
abbrev pub invariant-loop-i : goal.invariant-loop-i
invariant-loop-i l = record {
  spans : l.spans.items ≡ map (span_at l.job.parts.reels l.margin) (keys_of_asks l.job.parts.reels l.job.parts.timeline.events (asks_from l.job.parts.timeline 0 l.i));
  some : All IsSpan l.spans.items;
}
