-- The laws of dissolves. The two sides' weights are n and p, of 2 d together.
use Rattle.std.proofs.Common.{◌≡◌, ℕ, ◌+◌, ◌-◌, ◌*◌, ◌/◌, ◌%◌, ◌<◌, ◌≤◌, ap, arith, inl, inr}
use Rattle.std.proofs.Math.Nat.{mul-le-mul_left, mul-le-mul_right}
use Rattle.std.proofs.lemmas.Nat.{div-add-mod', mod_below}
use Rattle.std.proofs.lemmas.Bool.{cases_lt}
use Rattle.trans_mix.specs.Mix.{mixed_code}
use Rattle.trans_mix.specs.Laws.{LiesBetween, GoesToNew, IsSameBack, IsNearest, KeepsNegatives}

-- q is the quotient of a weighted sum and d by 2 d
pub record IsQuotient (sum d q : ℕ) : Type 0 where
  pub some : 0 < d
  pub rest : ℕ
  pub whole : 2 * d * q + rest ≡ sum + d
  pub below : rest < 2 * d

quotient : (a b k d n : ℕ) → n + (2 * k + 1) ≡ 2 * d → IsQuotient (a * n + b * (2 * k + 1)) d (mixed_code a b k d)
quotient a b k d n sides =
    let sum : ℕ = a * (2 * d - 2 * k - 1) + b * (2 * k + 1) + d in
    let same : a * (2 * d - 2 * k - 1) ≡ a * n = ap (λ m. a * m) (omega arith) in
    let parts : sum / (2 * d) * (2 * d) + sum % (2 * d) ≡ sum = div-add-mod' sum (2 * d) in
    record { some = omega arith; rest = sum % (2 * d); whole = omega (arith, parts, same); below = mod_below sum (2 * d) (omega arith) }

-- a quotient lies where its sum lies
at_least : (sum d q low : ℕ) → IsQuotient sum d q → 2 * d * low ≤ sum → low ≤ q
at_least sum d q low is order =
    elim (cases_lt q low) [
      | inl lt ↦ (let more : 2 * d * (q + 1) ≤ 2 * d * low = mul-le-mul_left (2 * d) (omega arith) in absurd (omega (arith, is.whole, is.below, is.some)))
      | inr le ↦ le
    ]

at_most : (sum d q high : ℕ) → IsQuotient sum d q → sum ≤ 2 * d * high → q ≤ high
at_most sum d q high is order =
    elim (cases_lt high q) [
      | inl lt ↦ (let more : 2 * d * (high + 1) ≤ 2 * d * q = mul-le-mul_left (2 * d) (omega arith) in absurd (omega (arith, is.whole, is.below, is.some)))
      | inr le ↦ le
    ]

rises : (s d q t e r : ℕ) → IsQuotient s d q → IsQuotient t e r → s * e ≤ t * d → q ≤ r
rises s d q t e r is to order =
    elim (cases_lt r q) [
      | inl lt ↦
          let more : 2 * d * e * (r + 1) ≤ 2 * d * e * q = mul-le-mul_left (2 * d * e) (omega arith) in
          let low : (2 * d * q + is.rest) * e ≡ (s + d) * e = ap (λ x. x * e) is.whole in
          let high : (2 * e * r + to.rest) * d ≡ (t + e) * d = ap (λ x. x * d) to.whole in
          let small : (to.rest + 1) * d ≤ 2 * e * d = mul-le-mul_right d (omega (arith, to.below)) in
          absurd (omega (arith, is.some))
      | inr le ↦ le
    ]

pub same_back : IsSameBack
same_back a b k d frame =
    let new : 2 * d - 2 * (d - 1 - k) - 1 ≡ 2 * k + 1 = omega arith in
    let old : 2 * (d - 1 - k) + 1 ≡ 2 * d - 2 * k - 1 = omega arith in
    ap (λ s. s / (2 * d)) (omega (arith, ap (λ m. b * m) new, ap (λ m. a * m) old))

pub nearest : IsNearest
nearest a b k d frame =
    let q = quotient a b k d (2 * d - (2 * k + 1)) (omega arith) in
    (omega (arith, q.whole, q.below), omega (arith, q.whole, q.below))

pub between : LiesBetween
between a b k d frame order =
    let n : ℕ = 2 * d - (2 * k + 1) in
    let p : ℕ = 2 * k + 1 in
    let up = quotient a b k d n (omega arith) in
    let down = quotient b a k d n (omega arith) in
    let by_a : a * (n + p) ≡ a * (2 * d) = ap (λ m. a * m) (omega arith) in
    let by_b : b * (n + p) ≡ b * (2 * d) = ap (λ m. b * m) (omega arith) in
    let by_n : a * n ≤ b * n = mul-le-mul_right n order in
    let by_p : a * p ≤ b * p = mul-le-mul_right p order in
    (at_least _ d _ a up (omega arith), at_most _ d _ b up (omega arith), at_least _ d _ a down (omega arith), at_most _ d _ b down (omega arith))

-- the two sums in one measure, of codes a and a + c
sums : (a c n p d m o e : ℕ) → n + p ≡ 2 * d → m + o ≡ 2 * e → p * e ≤ o * d
    → ((a * n + (a + c) * p) * e ≤ (a * m + (a + c) * o) * d) × (((a + c) * m + a * o) * d ≤ ((a + c) * n + a * p) * e)
sums a c n p d m o e first second later =
    let by_first : e * (n + p) ≡ e * (2 * d) = ap (λ x. e * x) first in
    let by_second : d * (m + o) ≡ d * (2 * e) = ap (λ x. d * x) second in
    let same : a * (n * e + p * e) ≡ a * (m * d + o * d) = ap (λ x. a * x) (omega arith) in
    let new : c * (p * e) ≤ c * (o * d) = mul-le-mul_left c later in
    let old : c * (m * d) ≤ c * (n * e) = mul-le-mul_left c (omega arith) in
    (omega arith, omega arith)

pub toward : GoesToNew
toward a b k d m e frame later no_later order =
    let n : ℕ = 2 * d - (2 * k + 1) in
    let o : ℕ = 2 * e - (2 * m + 1) in
    let is : b ≡ a + (b - a) = omega arith in
    let both = sums a (b - a) n (2 * k + 1) d o (2 * m + 1) e (omega arith) (omega arith) no_later in
    rw is (
      rises _ d _ _ e _ (quotient a (a + (b - a)) k d n (omega arith)) (quotient a (a + (b - a)) m e o (omega arith)) both.0,
      rises _ e _ _ d _ (quotient (a + (b - a)) a m e o (omega arith)) (quotient (a + (b - a)) a k d n (omega arith)) both.1,
    )

only : (d s t rest : ℕ) → 2 * d * s + rest ≡ 2 * d * t → rest < 2 * d → s ≡ t
only d s t rest whole below =
    elim (cases_lt s t) [
      | inl lt ↦ (let more : 2 * d * (s + 1) ≤ 2 * d * t = mul-le-mul_left (2 * d) (omega arith) in absurd (omega arith))
      | inr le ↦
          elim (cases_lt t s) [
            | inl more_than ↦ (let more : 2 * d * (t + 1) ≤ 2 * d * s = mul-le-mul_left (2 * d) (omega arith) in absurd (omega arith))
            | inr most ↦ omega arith
          ]
    ]

-- two rests of which the first is some are a whole part
one_less : (d s r t : ℕ) → 2 * d * s + (r + t) ≡ 2 * d * 1024 → 0 < r → r < 2 * d → t < 2 * d → s ≡ 1023
one_less d s r t whole some below_r below_t =
    elim (cases_lt s 1024) [
      | inl lt ↦
          let more : 2 * d * (s + 1) ≤ 2 * d * 1024 = mul-le-mul_left (2 * d) (omega arith) in
          let is : s + 1 ≡ 1024 = only d (s + 1) 1024 (r + t - 2 * d) (omega arith) (omega arith) in
          omega arith
      | inr le ↦ (let more : 2 * d * 1024 ≤ 2 * d * s = mul-le-mul_left (2 * d) le in absurd (omega arith))
    ]

pub negative : KeepsNegatives
negative a b k d small_a small_b frame =
    let n : ℕ = 2 * d - (2 * k + 1) in
    let p : ℕ = 2 * k + 1 in
    let q = quotient a b k d n (omega arith) in
    let o = quotient (1023 - a) (1023 - b) k d n (omega arith) in
    let by_a : (a + (1023 - a)) * n ≡ 1023 * n = ap (λ m. m * n) (omega arith) in
    let by_b : (b + (1023 - b)) * p ≡ 1023 * p = ap (λ m. m * p) (omega arith) in
    let x : ℕ = mixed_code a b k d in
    let y : ℕ = mixed_code (1023 - a) (1023 - b) k d in
    let both : 2 * d * (x + y) + (q.rest + o.rest) ≡ 2 * d * 1024 = omega (arith, q.whole, o.whole) in (
      λ half. only d (x + y) 1024 o.rest (omega (arith, q.whole)) o.below,
      λ not_half.
          elim (cases_lt 0 q.rest) [
            | inl some ↦ one_less d (x + y) q.rest o.rest both some q.below o.below
            | inr none ↦ absurd (not_half (omega (arith, q.whole)))
          ],
    )
