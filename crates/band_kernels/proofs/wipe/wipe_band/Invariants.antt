-- The lines so far are chosen.
use Rattle.std.proofs.Common.{◌≡◌, ℕ, ◌+◌, ◌*◌, ◌<◌, get_or}
use Rattle.trans_mix.specs.Wipe.{is_incoming}
use Rattle.band_kernels.specs.Words.{chosen_word}
use Rattle.band_kernels.proofs.wipe.wipe_band.Given as goal

abbrev pub invariant-loop-n : goal.invariant-loop-n
invariant-loop-n l =
    (x m : ℕ) → x < l.wipe.width → m < l.n
    → get_or l.out (m * l.wipe.width + x) 0
    ≡ chosen_word (is_incoming l.wipe.code x (l.y + m) l.wipe.width l.wipe.height l.wipe.k l.wipe.d) (get_or l.old (m * l.wipe.width + x) 0) (get_or l.new (m * l.wipe.width + x) 0)
