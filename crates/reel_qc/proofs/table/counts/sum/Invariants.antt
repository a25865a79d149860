use Rattle.std.proofs.Common.{◌≡◌, ◌*◌, ◌≤◌, take}
use Rattle.std.specs.List.{sum_by}
use Rattle.reel_qc.specs.Counts.{code_sum}
use Rattle.reel_qc.proofs.table.counts.sum.Given as goal

abbrev pub invariant-loop-word : goal.invariant-loop-word
invariant-loop-word l = (l.total ≡ sum_by code_sum (take l.word-index l.words)) × (l.total ≤ 3069 * l.word-index)
