use Rattle.std.proofs.Common.{◌≡◌, take}
use Rattle.std.specs.List.{count_by}
use Rattle.reel_qc.specs.Counts.{reaches_low}
use Rattle.reel_qc.proofs.table.counts.low.Given as goal

-- those of the first words
abbrev pub invariant-loop-word : goal.invariant-loop-word
invariant-loop-word l = l.count ≡ count_by reaches_low (take l.word-index l.words)
