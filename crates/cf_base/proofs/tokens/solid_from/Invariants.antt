use Rattle.std.proofs.Common.{◌≡◌, ◌≤◌, ◌<◌, ◌-◌, ℕ, true, length, get_or}
use Rattle.cf_base.specs.Tokens.{is_blank}
use Rattle.cf_base.proofs.tokens.solid_from.Given as goal

abbrev pub invariant-loop-place : goal.invariant-loop-place
invariant-loop-place l = record {
  low : l.at ≤ l.place;
  high : l.place ≤ length l.line;
  passed : (k : ℕ) → l.at ≤ k → k < l.place → is_blank (get_or l.line k 0) ≡ true;
}

abbrev pub decreases-loop-place : goal.decreases-loop-place
decreases-loop-place l = length l.line - l.place
