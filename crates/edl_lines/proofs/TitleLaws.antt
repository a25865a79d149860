-- The text of a title lies in its line.
use Rattle.std.proofs.Common.{◌≡◌, ℕ, ◌+◌, ◌-◌, ◌<◌, ◌≤◌, Bool, true, false, ◌&&◌, cond, List, [], ◌∷◌, length, ap, sym, ◌∙◌, arith, inl, inr}
use Rattle.std.specs.Prelude.{get_or, reverse}
use Rattle.std.specs.List.{list_all, prefix_len, suffix_len}
use Rattle.std.proofs.lemmas.Bool.{cases_lt, true≢false}
use Rattle.std.proofs.lemmas.List.{get_or-reverse}
use Rattle.std.proofs.lemmas.List.Sums.{prefix_len_passes, prefix_len_stops}

-- where not all pass, those at the front and those at the end don't meet
module _ (p : ℕ → Bool) where
  some_stops : (xs : List ℕ) → list_all p xs ≡ false → prefix_len p xs < length xs
  some_stops [] e = absurd (cc)
  some_stops (x ∷ xs) e = by (p x) (some_stops xs) e
    where
      by : (b : Bool) → (list_all p xs ≡ false → prefix_len p xs < length xs) → (b && list_all p xs) ≡ false → cond b (1 + prefix_len p xs) 0 < length (x ∷ xs)
      by true rest e = let less : prefix_len p xs < length xs = rest e in omega arith
      by false rest e = omega arith

  -- where they met, the one that stops those at the front would pass
  met : (xs : List ℕ) → list_all p xs ≡ false → length xs - 1 - prefix_len p xs < suffix_len p xs → ⊥
  met xs e meets =
      let front = prefix_len p xs in
      let less : front < length xs = some_stops xs e in
      let back : length xs - 1 - (length xs - 1 - front) ≡ front = omega arith in
      let passes : p (get_or (reverse xs) (length xs - 1 - front) 0) ≡ true = prefix_len_passes p (reverse xs) (length xs - 1 - front) 0 meets in
      let same = get_or-reverse xs (length xs - 1 - front) 0 (omega arith) ∙ ap (λ k. get_or xs k 0) back in
      true≢false (sym passes ∙ ap p same ∙ prefix_len_stops p xs 0 less)

  pub ends_apart : (xs : List ℕ) → list_all p xs ≡ false → prefix_len p xs + suffix_len p xs ≤ length xs
  ends_apart xs e =
      let less : prefix_len p xs < length xs = some_stops xs e in
      elim (cases_lt (length xs - 1 - prefix_len p xs) (suffix_len p xs)) [ inl meets ↦ absurd (met xs e meets) | inr apart ↦ omega arith ]
