use Rattle.std.proofs.Common.{◌≡◌, ◌≤◌, ◌<◌, ℕ, ◌+◌, ◌-◌, get_or}
use Rattle.reel_qc.proofs.sheet.tone_table.ToneTable.of.Given as goal

abbrev pub invariant-loop-value : goal.invariant-loop-value
invariant-loop-value l =
    ((k : ℕ) → k < l.value-index → get_or l.values k 0 ≤ 1023)
    × ((k : ℕ) → k + 1 < l.value-index → get_or l.values k 0 ≤ get_or l.values (k + 1) 0)
    × (l.value-index ≡ 0 → l.last ≡ 0)
    × (0 < l.value-index → l.last ≡ get_or l.values (l.value-index - 1) 0)
