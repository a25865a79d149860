-- A part of a list, of k places from a on, that is read or written anew, place by place.
use Rattle.std.proofs.Common.{◌≡◌, ℕ, ◌+◌, ◌-◌, ◌<◌, ◌≤◌, List, ◌++◌, length, take, drop, get_or, ap, sym, ◌∙◌, arith}
use Rattle.std.proofs.lemmas.List.{get_or_append_left, get_or-append_right, get_or-take, get_or-drop, length-take-le}
use borrow.Rule.Slice.PartMut.{put_mid, mid_of}

pub part_of : (a k : ℕ) (xs : List ℕ) (j : ℕ) → j < k → get_or (mid_of a k xs) j 0 ≡ get_or xs (a + j) 0
part_of a k xs j lt = get_or-take k (drop a xs) j 0 lt ∙ get_or-drop a xs j 0

module _ (a k : ℕ) (xs ys : List ℕ) (room : a ≤ length xs) where
  front : length (take a xs) ≡ a
  front = length-take-le a xs room

  pub part_before : (j : ℕ) → j < a → get_or (put_mid a k xs ys) j 0 ≡ get_or xs j 0
  part_before j lt =
      get_or_append_left (take a xs) (ys ++ drop k (drop a xs)) 0 j (omega (arith, front))
      ∙ get_or-take a xs j 0 lt

  behind : (j : ℕ) → get_or (put_mid a k xs ys) (a + j) 0 ≡ get_or (ys ++ drop k (drop a xs)) j 0
  behind j =
      let rest : a + j - a ≡ j = omega arith in
      get_or-append_right (take a xs) (ys ++ drop k (drop a xs)) a (a + j) 0 front (omega arith)
      ∙ ap (λ i. get_or (ys ++ drop k (drop a xs)) i 0) rest

  pub part_here : (j : ℕ) → j < length ys → get_or (put_mid a k xs ys) (a + j) 0 ≡ get_or ys j 0
  part_here j lt = behind j ∙ get_or_append_left ys (drop k (drop a xs)) 0 j lt

  pub part_behind : (j : ℕ) → length ys ≡ k → a + k ≤ j → get_or (put_mid a k xs ys) j 0 ≡ get_or xs j 0
  part_behind j long le =
      let from_a : a + (j - a) ≡ j = omega arith in
      let from_k : a + (k + (j - a - k)) ≡ j = omega arith in
      ap (λ i. get_or (put_mid a k xs ys) i 0) (sym from_a)
      ∙ behind (j - a)
      ∙ get_or-append_right ys (drop k (drop a xs)) k (j - a) 0 long (omega arith)
      ∙ get_or-drop k (drop a xs) (j - a - k) 0
      ∙ get_or-drop a xs (k + (j - a - k)) 0
      ∙ ap (λ i. get_or xs i 0) from_k
