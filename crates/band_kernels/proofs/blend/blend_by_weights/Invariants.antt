-- The words so far are those of the dissolve.
use Rattle.std.proofs.Common.{◌≡◌, ℕ, ◌<◌, get_or}
use Rattle.band_kernels.specs.Words.{mixed_word}
use Rattle.band_kernels.proofs.blend.blend_by_weights.Given as goal

abbrev pub invariant-loop-i : goal.invariant-loop-i
invariant-loop-i l = (j : ℕ) → j < l.i → get_or l.out j 0 ≡ mixed_word l.weights.k l.weights.d (get_or l.old j 0) (get_or l.new j 0)
