-- A tone never falls, so the greatest of its codes is the code of the greatest mean.
use Rattle.std.proofs.Common.{◌≡◌, ℕ, zero, suc, ◌+◌, ◌<◌, ◌≤◌, max, List, [], ◌∷◌, length, map, get_or, refl, sym, ap, ◌∙◌, subst, arith, inl, inr, ◌-◌}
use Rattle.std.specs.List.{All, fold}
use Rattle.std.proofs.lemmas.Bool.{cases_lt}
use Rattle.std.proofs.lemmas.List.Elements.{All-head, All-tail}
use Rattle.reel_qc.specs.Tones.{IsToneTable}

module _ (values : List ℕ) (is : IsToneTable values) where
  climbs : (a n : ℕ) → a + n ≤ 1023 → get_or values a 0 ≤ get_or values (a + n) 0
  climbs a zero le = let same : a + 0 ≡ a = omega arith in rw same (omega arith)
  climbs a (suc n) le =
      let next : a + suc n ≡ a + n + 1 = omega arith in
      let before = climbs a n (omega arith) in
      let step = is.rises (a + n) (omega arith) in
      rw next (omega (arith, before, step))

  -- a greater code has no smaller value
  pub rises_to : (a b : ℕ) → a ≤ b → b ≤ 1023 → get_or values a 0 ≤ get_or values b 0
  rises_to a b le most =
      let there : a + (b - a) ≡ b = omega arith in
      subst (λ (n : ℕ). get_or values a 0 ≤ get_or values n 0) there (climbs a (b - a) (omega arith))

  of_greater : (a b : ℕ) → a ≤ 1023 → b ≤ 1023 → max (get_or values a 0) (get_or values b 0) ≡ get_or values (max a b) 0
  of_greater a b la lb = elim (cases_lt a b) [
    | inl lt ↦
        let top : max a b ≡ b = omega arith in
        let le = rises_to a b (omega arith) lb in
        rw top (omega (arith, le))
    | inr ge ↦
        let top : max a b ≡ a = omega arith in
        let le = rises_to b a ge la in
        rw top (omega (arith, le))
  ]

  from_mean : (mean : ℕ) (means : List ℕ) → mean ≤ 1023 → All (λ m. m ≤ 1023) means
      → fold max (get_or values mean 0) (map (λ m. get_or values m 0) means) ≡ get_or values (fold max mean means) 0
  from_mean mean [] le all = refl
  from_mean mean (m ∷ means) le all =
      let here = All-head (λ n. n ≤ 1023) m means all in
      let first = of_greater mean m le here in
      ap (λ n. fold max n (map (λ k. get_or values k 0) means)) first
      ∙ from_mean (max mean m) means (omega (arith, here)) (All-tail (λ n. n ≤ 1023) m means all)

  pub peak_is : (means : List ℕ) → 0 < length means → All (λ m. m ≤ 1023) means
      → fold max 0 (map (λ m. get_or values m 0) means) ≡ get_or values (fold max 0 means) 0
  peak_is [] some all = absurd (omega arith)
  peak_is (m ∷ means) some all =
      let here = All-head (λ n. n ≤ 1023) m means all in
      let low : max 0 (get_or values m 0) ≡ get_or values m 0 = omega arith in
      let mean : max 0 m ≡ m = omega arith in
      ap (λ n. fold max n (map (λ k. get_or values k 0) means)) low
      ∙ from_mean m means here (All-tail (λ n. n ≤ 1023) m means all)
      ∙ ap (λ n. get_or values (fold max n means) 0) (sym mean)
