use Rattle.std.proofs.Common.{◌≡◌, ℕ, ◌<◌, get_or, false}
use Rattle.cf_base.specs.Fixed.{is_point}
use Rattle.cf_base.proofs.fixed.point_of.Given as goal

abbrev pub invariant-loop-at : goal.invariant-loop-at
invariant-loop-at l = (k : ℕ) → k < l.at → is_point (get_or l.mantissa k 0) ≡ false
