use Rattle.std.proofs.Common.{◌≡◌, ℕ, ◌<◌, get_or, false}
use Rattle.cf_base.specs.Fixed.{is_exponent_mark}
use Rattle.cf_base.proofs.fixed.mark_of.Given as goal

abbrev pub invariant-loop-at : goal.invariant-loop-at
invariant-loop-at l = (k : ℕ) → k < l.at → is_exponent_mark (get_or l.body k 0) ≡ false
