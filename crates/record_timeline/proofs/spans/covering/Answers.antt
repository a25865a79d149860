use Rattle.std.proofs.Common.{leb, true, false, ◌≡◌, rules}
use Rattle.std.specs.List.Sorted.{IsPartitionPoint}
use Rattle.std.proofs.lemmas.List.Sorted.{IsPartitionPoint-from_clause, IsPartitionedBy-leb}
use Rattle.record_timeline.specs.declared.spans.RecordSpan.{RecordSpan}
use Rattle.record_timeline.proofs.CoverLaws.{nothing_covers, place_within, last_covers, none_covers}
use Rattle.record_timeline.proofs.spans.covering.Goals as goal

pub returns-then-begun-eq0-clause-value : goal.returns-then-begun-eq0-clause-value
returns-then-begun-eq0-clause-value c =
    let splits : IsPartitionPoint (λ (s : RecordSpan). leb s.rec_in c.args.n ≡ true) (λ (s : RecordSpan). leb s.rec_in c.args.n ≡ false) c.args.spans.now c.partition_point-begun.result
    = IsPartitionPoint-from_clause (λ (s : RecordSpan). leb s.rec_in c.args.n) _ _ c.partition_point-begun.ensures.partitioned (IsPartitionedBy-leb (λ (s : RecordSpan). s.rec_in) _ c.args.n c.requires.sorted.sorted) (λ a r q k. search rules) in
    nothing_covers _ _ c.requires.sorted c.requires.apart c.args.n _ splits c.if-begun-eq0.true

pub returns-then-n-last-clause-value : goal.returns-then-n-last-clause-value
returns-then-n-last-clause-value c =
    let splits : IsPartitionPoint (λ (s : RecordSpan). leb s.rec_in c.args.n ≡ true) (λ (s : RecordSpan). leb s.rec_in c.args.n ≡ false) c.args.spans.now c.partition_point-begun.result
    = IsPartitionPoint-from_clause (λ (s : RecordSpan). leb s.rec_in c.args.n) _ _ c.partition_point-begun.ensures.partitioned (IsPartitionedBy-leb (λ (s : RecordSpan). s.rec_in) _ c.args.n c.requires.sorted.sorted) (λ a r q k. search rules) in
    last_covers _ _ c.requires.sorted c.requires.apart c.args.n _ splits _ c.if-begun-eq0.false c.partition_point-begun.ensures.bound c.if-n-last.true

pub returns-then-n-last-clause-within : goal.returns-then-n-last-clause-within
returns-then-n-last-clause-within c =
    let splits : IsPartitionPoint (λ (s : RecordSpan). leb s.rec_in c.args.n ≡ true) (λ (s : RecordSpan). leb s.rec_in c.args.n ≡ false) c.args.spans.now c.partition_point-begun.result
    = IsPartitionPoint-from_clause (λ (s : RecordSpan). leb s.rec_in c.args.n) _ _ c.partition_point-begun.ensures.partitioned (IsPartitionedBy-leb (λ (s : RecordSpan). s.rec_in) _ c.args.n c.requires.sorted.sorted) (λ a r q k. search rules) in
    place_within _ _ c.requires.sorted c.requires.apart c.args.n _ splits _ c.if-begun-eq0.false c.partition_point-begun.ensures.bound

pub returns-else-n-last-clause-value : goal.returns-else-n-last-clause-value
returns-else-n-last-clause-value c =
    let splits : IsPartitionPoint (λ (s : RecordSpan). leb s.rec_in c.args.n ≡ true) (λ (s : RecordSpan). leb s.rec_in c.args.n ≡ false) c.args.spans.now c.partition_point-begun.result
    = IsPartitionPoint-from_clause (λ (s : RecordSpan). leb s.rec_in c.args.n) _ _ c.partition_point-begun.ensures.partitioned (IsPartitionedBy-leb (λ (s : RecordSpan). s.rec_in) _ c.args.n c.requires.sorted.sorted) (λ a r q k. search rules) in
    none_covers _ _ c.requires.sorted c.requires.apart c.args.n _ splits _ c.if-begun-eq0.false c.partition_point-begun.ensures.bound c.if-n-last.false
