-- The cuts up to a frame are those before the place where they are past it.
use Rattle.std.proofs.Common.{◌≡◌, ℕ, leb, true, false, rules, sym}
use Rattle.std.specs.List.Sorted.{IsPartitionPoint}
use Rattle.std.proofs.lemmas.List.Sorted.{IsPartitionPoint-from_clause, IsPartitionedBy-leb}
use Rattle.conform_job.proofs.Cutting.{split_count}
use Rattle.conform_job.proofs.cuts.cuts_up_to.Goals as goal

pub returns-clause-count : goal.returns-clause-count
returns-clause-count c =
    let splits : IsPartitionPoint (λ (cut : ℕ). leb cut c.args.number ≡ true) (λ (cut : ℕ). leb cut c.args.number ≡ false) c.args.cuts.now c.partition_point.result
    = IsPartitionPoint-from_clause (λ (cut : ℕ). leb cut c.args.number) _ _ c.partition_point.ensures.partitioned
    (IsPartitionedBy-leb (λ (cut : ℕ). cut) _ c.args.number c.requires.ascending) (λ a r q k. search rules) in
    sym (split_count (λ (cut : ℕ). leb cut c.args.number) c.args.cuts.now c.partition_point.result c.partition_point.ensures.bound splits.0 splits.1)
