use Rattle.std.proofs.Common.{◌≡◌, ◌-◌, ◌/◌, ◌^◌, length, drop}
use Rattle.cf_base.specs.Digits.{digits}
use Rattle.cf_base.proofs.digits.last_digits.Given as goal

abbrev pub invariant-loop-place : goal.invariant-loop-place
invariant-loop-place g l = record {
  size : length l.text ≡ g.row.N;
  left : l.rest ≡ l.number / 10 ^ (g.row.N - l.place);
  written : drop l.place l.text ≡ digits (g.row.N - l.place) l.number;
}
