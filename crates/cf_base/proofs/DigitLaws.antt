-- Digits from the last one on.
use Rattle.std.proofs.Common.{◌≡◌, ℕ, suc, ◌+◌, ◌/◌, ◌%◌, ◌^◌, ◌∷◌, refl, arith}
use Rattle.std.proofs.Math.Nat.{div-div-eq-div-mul, pow-suc}
use Rattle.cf_base.specs.Digits.{digits}

-- one digit more, by what the digits behind it leave
pub digits_more : (number rest count : ℕ) → rest ≡ number / 10 ^ count → digits (count + 1) number ≡ (48 + rest % 10) ∷ digits count number
digits_more number rest count left =
    let step : count + 1 ≡ suc count = omega arith in
    rw (step, left) refl

-- and what is left by one more
pub left_more : (number rest count : ℕ) → rest ≡ number / 10 ^ count → rest / 10 ≡ number / 10 ^ (count + 1)
left_more number rest count left =
    let step : count + 1 ≡ suc count = omega arith in
    rw (step, left, pow-suc) (div-div-eq-div-mul number (10 ^ count) 10)
