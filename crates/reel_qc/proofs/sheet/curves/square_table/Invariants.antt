use Rattle.std.proofs.Common.{◌≡◌, ◌<◌, ℕ, length, get_or}
use Rattle.reel_qc.specs.Tones.{squared}
use Rattle.reel_qc.proofs.sheet.curves.square_table.Given as goal

abbrev pub invariant-loop-code : goal.invariant-loop-code
invariant-loop-code l = (length l.values ≡ 1024) × ((k : ℕ) → k < l.code → get_or l.values k 0 ≡ squared k)
