use Rattle.reel_qc.proofs.Adds.{IsAddedTo}
use Rattle.reel_qc.proofs.table.blocks.add_row.Given as goal

-- the first k counts of the row are added
abbrev pub invariant-loop-k : goal.invariant-loop-k
invariant-loop-k l = IsAddedTo l.row l.fn.counts l.counts l.k
