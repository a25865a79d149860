-- Rounding toward minus infinity.
use Rattle.std.proofs.Common.{pos, negsuc, ◌+◌, ◌*◌, ◌≤◌, ap, arith, inl, inr}
use Rattle.std.proofs.lemmas.Int.{ints}
use Rattle.std.proofs.lemmas.Bool.{cases_order}
use Rattle.std.proofs.Math.Nat.{mul-le-mul_left}
use Rattle.speed_map.specs.Speeds.{RoundsDown, OneFloor}

pub rounds_down : RoundsDown
rounds_down (pos n) d h = (omega (arith, ints), omega (arith, ints))
rounds_down (negsuc n) d h = (omega (arith, ints), omega (arith, ints))

pub one_floor : OneFloor
one_floor z d (pos m) (pos n) h a b = elim (cases_order m n) [
  | inl same ↦ ap pos same
  | inr (inl less) ↦ let step : d * (m + 1) ≤ d * n = mul-le-mul_left d (omega (arith, less)) in absurd (omega (arith, ints, step, a.1, b.0))
  | inr (inr more) ↦ let step : d * (n + 1) ≤ d * m = mul-le-mul_left d (omega (arith, more)) in absurd (omega (arith, ints, step, a.0, b.1))
]
one_floor z d (pos m) (negsuc n) h a b = absurd (omega (arith, ints, h, a.0, b.1))
one_floor z d (negsuc m) (pos n) h a b = absurd (omega (arith, ints, h, a.1, b.0))
one_floor z d (negsuc m) (negsuc n) h a b = elim (cases_order m n) [
  | inl same ↦ ap negsuc same
  | inr (inl less) ↦ let step : d * (m + 1) ≤ d * n = mul-le-mul_left d (omega (arith, less)) in absurd (omega (arith, ints, step, a.0, b.1))
  | inr (inr more) ↦ let step : d * (n + 1) ≤ d * m = mul-le-mul_left d (omega (arith, more)) in absurd (omega (arith, ints, step, a.1, b.0))
]
