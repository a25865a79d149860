-- The new words so far lie over the old ones.
use Rattle.std.proofs.Common.{◌≡◌, ℕ, ◌<◌, ◌≤◌, get_or}
use Rattle.band_kernels.proofs.wipe.choose.Given as goal

abbrev pub invariant-loop-x : goal.invariant-loop-x
invariant-loop-x l = record {
  inside : (j : ℕ) → l.fn.columns.from ≤ j → j < l.x → get_or l.out j 0 ≡ get_or l.new j 0;
  before : (j : ℕ) → j < l.fn.columns.from → get_or l.out j 0 ≡ get_or l.old j 0;
  behind : (j : ℕ) → l.x ≤ j → get_or l.out j 0 ≡ get_or l.old j 0;
}
