-- A range of numbers with one number more at its end.
use Rattle.std.proofs.Common.{◌≡◌, ℕ, zero, suc, ◌+◌, [], ◌∷◌, ◌++◌, ap, ◌∙◌, arith, add-one}
use Rattle.std.specs.List.{range_with_len}

pub range_from_more : (a n : ℕ) → range_with_len a (suc n) ≡ range_with_len a n ++ (a + n) ∷ []
range_from_more a zero = ap (λ k. k ∷ []) (omega arith)
range_from_more a (suc n) =
    let at : a + 1 + n ≡ a + suc n = omega arith in
    ap (λ r. a ∷ r) (range_from_more (a + 1) n ∙ ap (λ k. range_with_len (a + 1) n ++ k ∷ []) at)

pub range_more : (n : ℕ) → range_with_len 0 (n + 1) ≡ range_with_len 0 n ++ n ∷ []
range_more n =
    let at : 0 + n ≡ n = omega arith in
    rw add-one (range_from_more 0 n ∙ ap (λ k. range_with_len 0 n ++ k ∷ []) at)
