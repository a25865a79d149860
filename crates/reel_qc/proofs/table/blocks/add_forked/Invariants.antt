use Rattle.std.proofs.Common.{◌*◌, map, take}
use Rattle.reel_qc.specs.Counts.{HasAdded, counts_of}
use Rattle.reel_qc.proofs.table.blocks.add_forked.Given as goal

-- the counts of the first n blocks are added
abbrev pub invariant-loop-n : goal.invariant-loop-n
invariant-loop-n g l = HasAdded (counts_of (map (λ p. p.kind) l.probes) (take (l.n * 16384) l.words)) l.fn.counts l.counts
