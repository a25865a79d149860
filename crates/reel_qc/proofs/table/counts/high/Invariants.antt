use Rattle.std.proofs.Common.{◌≡◌, take}
use Rattle.std.specs.List.{count_by}
use Rattle.reel_qc.specs.Counts.{reaches_high}
use Rattle.reel_qc.proofs.table.counts.high.Given as goal

-- those of the first words
abbrev pub invariant-loop-word : goal.invariant-loop-word
invariant-loop-word l = l.count ≡ count_by reaches_high (take l.word-index l.words)
