-- A dissolve of two codes is a code.
use Rattle.std.proofs.Common.{◌≡◌, ℕ, ◌+◌, ◌-◌, ◌*◌, ◌/◌, ◌%◌, ◌<◌, ◌≤◌, arith, inl, inr}
use Rattle.std.proofs.Math.Nat.{mul-le-mul_left, mul-le-mul_right}
use Rattle.std.proofs.lemmas.Bool.{cases_lt}
use Rattle.trans_mix.specs.Mix.{mixed_code}

most : (m d q r : ℕ) → 2 * d * q + r ≡ m → m < 1024 * (2 * d) → q ≤ 1023
most m d q r parts below =
    elim (cases_lt q 1024) [
      | inl small ↦ omega arith
      | inr large ↦ (let more : 2 * d * 1024 ≤ 2 * d * q = mul-le-mul_left (2 * d) large in absurd (omega arith))
    ]

pub mixed_code-most : (a b k d : ℕ) → a ≤ 1023 → b ≤ 1023 → k < d → mixed_code a b k d ≤ 1023
mixed_code-most a b k d small_a small_b frame =
    let n : ℕ = 2 * d - 2 * k - 1 in
    let p : ℕ = 2 * k + 1 in
    let sum : ℕ = a * n + b * p + d in
    let old : a * n ≤ 1023 * n = mul-le-mul_right n small_a in
    let new : b * p ≤ 1023 * p = mul-le-mul_right p small_b in
    most sum d (sum / (2 * d)) (sum % (2 * d)) (omega arith) (omega arith)
