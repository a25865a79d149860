use Rattle.std.proofs.Common.{map}
use Rattle.reel_qc.specs.Counts.{counts_of}
use Rattle.reel_qc.proofs.Adds.{IsAddedTo}
use Rattle.reel_qc.proofs.table.blocks.add_each.Given as goal

-- the counts of the first k probes are added
abbrev pub invariant-loop-k : goal.invariant-loop-k
invariant-loop-k g l = IsAddedTo (counts_of (map (λ p. p.kind) l.probes) l.words) l.fn.counts l.counts l.k
